pub mod Bytes
pub mod Made
pub mod Meanings
pub mod Refused
pub mod Sounds
