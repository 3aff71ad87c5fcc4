pub mod Bits
pub mod Bytes
pub mod Changes
pub mod Driven
pub mod Latch
pub mod Tests
