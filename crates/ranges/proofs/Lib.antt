pub mod Four
pub mod OneAnswers
pub mod RangeRows
pub mod RangeSearch
