pub mod Answers
pub mod Images
pub mod Meaning
pub mod Pendings
pub mod Refusals
pub mod Steps
pub mod Landing
