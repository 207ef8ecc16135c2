pub mod Whole
pub mod Promise
pub mod Pair
pub mod PairPromise
