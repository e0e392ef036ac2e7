pub mod Clearness
pub mod Worked
