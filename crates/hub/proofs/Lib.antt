pub mod Reports
pub mod BenchReports
pub mod EnteredReports
pub mod KeepReports
pub mod PutReports
pub mod Laws
pub mod WrongAnswers
