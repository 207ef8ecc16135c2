pub mod DigitLaws
pub mod Counting
pub mod GroupLaws
