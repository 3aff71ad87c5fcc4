pub mod Appending
pub mod Clocking
pub mod Ticking
pub mod Answering
pub mod Replaying
