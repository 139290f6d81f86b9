-- What the calls answer, each as an Option or a Result of its parts; the constructors are named in the words of the documents.
-- Assumes nothing.
pub mod Header
pub mod Length
pub mod Passed
pub mod Next
pub mod Reads
pub mod Reading
pub mod ReadingGuid
pub mod ReadingId
pub mod ReadingSerial
