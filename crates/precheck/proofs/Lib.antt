pub mod Laws
pub mod Opened
pub mod Expressions
pub mod Counting
pub mod Patterns
pub mod Checks
pub mod ClauseLaws
pub mod FlatLaws
