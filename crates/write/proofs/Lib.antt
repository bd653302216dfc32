pub mod Lay
pub mod Rooms
pub mod Left
pub mod Rows
pub mod Opened
pub mod Owned
pub mod Sections
