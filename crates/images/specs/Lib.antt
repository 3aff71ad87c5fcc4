pub mod Outcomes
pub mod Subjects
