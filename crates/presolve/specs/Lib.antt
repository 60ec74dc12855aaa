-- What a call promises, and what follows of it.
pub mod Promise
pub mod Fronts
pub mod RowTerms
pub mod Demands
pub mod Calls
pub mod Steps
pub mod Second
