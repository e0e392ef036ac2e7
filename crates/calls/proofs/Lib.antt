pub mod Cuts
pub mod LinesOf
pub mod Spellings
