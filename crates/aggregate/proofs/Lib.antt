pub mod NameLaws
pub mod EscapeLaws
pub mod CallLaws
