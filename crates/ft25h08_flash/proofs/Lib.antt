pub mod Sending
pub mod Starting
