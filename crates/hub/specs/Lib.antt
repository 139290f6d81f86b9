pub mod Call
pub mod Bench
pub mod Put
pub mod Keep
pub mod BenchPut
