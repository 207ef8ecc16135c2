pub mod Answer
pub mod Steps
pub mod Stands
pub mod Example
