pub mod Stretches
pub mod Image
pub mod Entries
pub mod Held
pub mod Means
pub mod Records
