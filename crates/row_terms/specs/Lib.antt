-- Where an emitted row's terms stand, and how they are read.
pub mod RowMark
pub mod Parts
pub mod Place
