pub mod Signed
pub mod Storing
