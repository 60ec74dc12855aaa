-- Rows of no term, and of one.
pub mod Empty
pub mod Singleton
