pub mod Digits
pub mod Wholes
pub mod Fractions
