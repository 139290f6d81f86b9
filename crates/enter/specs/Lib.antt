pub mod Entering
pub mod Package
pub mod Plan
