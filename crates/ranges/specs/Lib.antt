pub mod Results
pub mod RangeTable
pub mod Ranged
