pub mod Bounds
pub mod Bytes
pub mod Making
pub mod Meaning
pub mod Refusals
