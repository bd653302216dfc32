pub mod Words
pub mod Faults
pub mod Parse
pub mod RoundTrip
pub mod Depth
pub mod Readable
pub mod Refusals
pub mod Longest
