pub mod Work
pub mod Answer
pub mod Tests
pub mod PlanTest
pub mod Sizing
pub mod Lowering
pub mod Fits
pub mod Tables
