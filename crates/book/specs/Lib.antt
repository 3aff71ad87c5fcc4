pub mod Area
pub mod Books
pub mod Slots
pub mod Gets
pub mod Puts
pub mod Refusals
