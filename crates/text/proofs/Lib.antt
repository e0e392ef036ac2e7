pub mod Heads
pub mod Naming
pub mod Telling
pub mod Whole
