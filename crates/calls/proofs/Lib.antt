pub mod Unrecorded
pub mod Behaves
pub mod Calls
