pub mod Answer
pub mod AnswerLaws
pub mod Hex
pub mod Name
pub mod Number
pub mod Place
pub mod InPlace
