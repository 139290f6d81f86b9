-- What the calls answer, each as an Option or a Result of its parts; the constructors are named in the words of the documents.
-- Assumes nothing.
pub mod Answered
pub mod Decided
pub mod Reckoned
