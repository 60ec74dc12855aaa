-- What the formulas' contracts cite besides the definition, and the laws that tie it to the definition.
pub mod Bare
pub mod Reduce
pub mod Terms
pub mod Moves
pub mod Singles
pub mod Implied
pub mod Stays
pub mod Forcing
pub mod Rewriting
pub mod Fixing
