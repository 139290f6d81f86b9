-- What the calls answer, each as an Option or a Result of its parts; the constructors are named in the words of the documents.
-- Assumes nothing.
pub mod ExtendedGuid
pub mod Serial
pub mod Compact
pub mod ReadExtendedGuid
pub mod ReadSerial
pub mod Wrote
