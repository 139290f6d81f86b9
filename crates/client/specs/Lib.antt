pub mod Results
pub mod AskWritten
pub mod Ask
pub mod Read
pub mod Accessor
pub mod PutWritten
pub mod ReadPut
pub mod Back
