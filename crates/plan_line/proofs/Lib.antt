pub mod CopyLaws
pub mod SignedLaws
pub mod RowLaws
