pub mod Registering
pub mod Counting
