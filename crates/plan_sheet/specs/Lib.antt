pub mod Due
pub mod Measure
pub mod Path
pub mod Behind
pub mod Parted
pub mod Asked
