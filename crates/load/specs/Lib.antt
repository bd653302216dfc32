pub mod Reads
pub mod Values
pub mod Blocks
pub mod Environments
pub mod Files
pub mod Loads
