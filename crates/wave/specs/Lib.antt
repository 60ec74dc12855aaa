-- A wave on the slices: a row of two terms or more, a row by its count of terms, a row's turn, and the waves.
pub mod Several
pub mod ByCount
pub mod Row
pub mod Rows
pub mod Begin
pub mod Again
