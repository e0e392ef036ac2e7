pub mod Answering
pub mod Output
