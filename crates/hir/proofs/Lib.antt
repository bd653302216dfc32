pub mod Limits
pub mod Empty
pub mod Bound
pub mod Parts
pub mod Grow
pub mod Deepest
