pub mod Pattern
pub mod Expr
pub mod Clause
pub mod Inputs
pub mod Counts
pub mod Ended
pub mod Pair
