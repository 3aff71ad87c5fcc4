pub mod Tables
pub mod Sizing
pub mod Codes
