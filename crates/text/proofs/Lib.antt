pub mod Printed
pub mod Quads
pub mod Saying
pub mod Sectioned
