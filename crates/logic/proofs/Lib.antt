pub mod Back
pub mod Rows
pub mod Events
pub mod Reaches
pub mod Related
pub mod Clear
pub mod Spelled
pub mod TableMeans
