pub mod WellFormed
pub mod Faithful
