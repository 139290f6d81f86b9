pub mod Turns
pub mod ReadRows
pub mod Outcomes
pub mod Keeping
pub mod OneAnswers
pub mod Refusals
pub mod AfterKeep
pub mod KeepExample
