-- What the contracts of the end of presolve cite, and its laws.
pub mod Judged
pub mod Results
pub mod Summary
pub mod Writing
pub mod Answered
