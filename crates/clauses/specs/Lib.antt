pub mod Turns
pub mod Steps
pub mod Asked
pub mod Statement
pub mod Pair
