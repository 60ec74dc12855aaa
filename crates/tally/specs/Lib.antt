-- That no count reaches 2^64: what each step adds at most, and the whole.
pub mod Tallied
pub mod Bounds
pub mod Rows
pub mod Coefficients
pub mod Whole
pub mod Theorem
