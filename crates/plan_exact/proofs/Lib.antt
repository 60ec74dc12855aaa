-- The theorem, and its parts: a bound (Bounds), a row (Rows), and that what is said first says each (First).
pub mod Bounds
pub mod Rows
pub mod First
pub mod Theorem
