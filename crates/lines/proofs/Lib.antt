pub mod Formed
pub mod Writing
