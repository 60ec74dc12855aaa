-- What demand 3 says of the rows, the counts and the bounds of every answer, and the walk over the steps that the proofs share.
pub mod Statements
pub mod Steps
pub mod Numbers
pub mod Kept
pub mod Boxes
pub mod RowSteps
pub mod Waves
pub mod Outs
pub mod Whole
-- the states that presolve reaches, by moves, and that it goes through no others
pub mod States
pub mod WithActivity
pub mod Looks
pub mod Fates
pub mod Counted
pub mod Given
pub mod AllRows
pub mod EqRows
pub mod Sizes
pub mod NoMinusZero
pub mod NoNan
pub mod Coefficients
pub mod Zeros
