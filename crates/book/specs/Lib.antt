pub mod Results
pub mod Keep
pub mod Refusing
pub mod Plan
