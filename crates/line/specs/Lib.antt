pub mod Kinds
pub mod Place
pub mod Group
pub mod FieldRead
pub mod LineRead
