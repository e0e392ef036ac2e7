pub mod Forms
pub mod Policies
pub mod Stands
pub mod Tables
pub mod Written
