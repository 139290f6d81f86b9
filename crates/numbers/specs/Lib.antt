pub mod Results
pub mod Refusals
pub mod Compact
pub mod CompactTable
pub mod Guid
pub mod ExtendedGuid
pub mod Serial
pub mod Calls
