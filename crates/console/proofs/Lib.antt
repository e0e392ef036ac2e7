pub mod Counts
pub mod Making
pub mod Outputs
pub mod Replies
pub mod Unique
