pub mod Ops
pub mod Read
pub mod Tables
pub mod Lent
pub mod IndexLaws
pub mod OpLaws
pub mod LentLaws
