pub mod Told
pub mod Text
