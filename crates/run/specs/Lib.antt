pub mod Tasks
pub mod Frames
pub mod Exits
pub mod Holds
pub mod Operands
pub mod Turn
pub mod Operations
pub mod Runs
