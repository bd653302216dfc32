pub mod Tests
pub mod Lines
pub mod Scopes
pub mod Loaded
