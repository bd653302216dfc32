pub mod Calls
pub mod Promise
