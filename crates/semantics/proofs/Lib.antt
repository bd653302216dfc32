pub mod Alike
pub mod Link
pub mod Rounds
pub mod Records
pub mod Budgets
pub mod Wide
pub mod Jumps
pub mod Computed
