pub mod WholeLaws
pub mod PairLaws
