pub mod Complete
pub mod Fits
pub mod Limits
pub mod Right
pub mod Sound
