pub mod Image
pub mod Table
pub mod Keeping
pub mod Layouts
pub mod Pastes
pub mod Ring
