pub mod ChipFlash
pub mod Taken
pub mod Taking
