-- What is proved of the definition by computing it.
pub mod Cases
pub mod Edges
