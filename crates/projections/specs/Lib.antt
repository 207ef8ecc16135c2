pub mod Items
pub mod Ready
pub mod Asked
pub mod Room
pub mod Passes
pub mod Promises
