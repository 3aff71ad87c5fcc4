pub mod Marks
pub mod Points
pub mod Reading
pub mod Scaling
pub mod Zeros
