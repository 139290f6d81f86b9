pub mod Results
pub mod Put
pub mod Entering
pub mod NewStore
pub mod Plan
pub mod Applied
