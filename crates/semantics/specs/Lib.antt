pub mod Machine
pub mod Targets
pub mod Exec
pub mod Laws
pub mod Below
pub mod Examples
pub mod Words
