pub mod Keywords
pub mod Copy
pub mod Row
