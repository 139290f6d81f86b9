pub mod Results
pub mod Filter
pub mod ShortId
pub mod Meaning
pub mod Message
pub mod Response
pub mod Choice
pub mod Index
