pub mod Arguments
pub mod Laws
pub mod Number
pub mod Refusal
pub mod Said
pub mod Store
