pub mod Frames
pub mod Protection
pub mod Rules
pub mod Shapes
pub mod Sizes
pub mod Status
