pub mod Pushing
pub mod TrailerLaws
pub mod Opened
pub mod WithLaws
pub mod PartLaws
pub mod PassLaws
pub mod ReturnLaws
