pub mod Before
pub mod Needed
pub mod Operations
pub mod Put
pub mod Refusals
pub mod Pieces
