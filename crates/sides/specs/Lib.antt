pub mod Fault
pub mod Sides
