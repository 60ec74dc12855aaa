-- What is said of a whole-number plan on a model of whole numbers: Statements.
pub mod Statements
