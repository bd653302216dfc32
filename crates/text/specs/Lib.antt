pub mod Again
pub mod Line
pub mod Message
pub mod Read
pub mod Said
pub mod Sections
