pub mod Digits
pub mod Written
