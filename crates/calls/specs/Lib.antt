pub mod Faults
pub mod Input
pub mod Lines
pub mod Spelling
