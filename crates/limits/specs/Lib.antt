pub mod Limits
pub mod PairLimits
