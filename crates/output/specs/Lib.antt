pub mod Page
pub mod Writes
pub mod Whole
pub mod Wide
