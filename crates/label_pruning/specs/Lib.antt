pub mod Pruning
pub mod Promises
pub mod Examples
