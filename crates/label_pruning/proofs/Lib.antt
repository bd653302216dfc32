pub mod Passes
pub mod WellFormed
pub mod Faithful
pub mod Examples
