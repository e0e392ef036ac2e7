pub mod Marks
pub mod Signs
pub mod Stands
pub mod Walk
