pub mod Statements
pub mod Lowering
pub mod Pass
pub mod Promises
pub mod Examples
pub mod Faithful
