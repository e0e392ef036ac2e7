pub mod Records
pub mod Kept
pub mod Reaching
pub mod Refusals
pub mod Calls
pub mod Walking
pub mod Worked
