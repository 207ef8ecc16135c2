pub mod Lowering
pub mod Relating
pub mod Alike
pub mod PairAlike
