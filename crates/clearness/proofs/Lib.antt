pub mod Refused
pub mod Clearness
