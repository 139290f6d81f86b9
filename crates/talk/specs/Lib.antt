pub mod Ranges
pub mod Page
pub mod Wanted
pub mod Each
pub mod Series
pub mod RangeSeries
