pub mod Moves
pub mod Parsing
