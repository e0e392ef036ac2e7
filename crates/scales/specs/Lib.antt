pub mod Algebra
pub mod Scales
pub mod ScalesLemmas
pub mod Tables
