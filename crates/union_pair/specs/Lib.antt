pub mod PairAnswer
pub mod PairCall
