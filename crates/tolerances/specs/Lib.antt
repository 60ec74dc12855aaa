-- The definitions of the tolerances (Tol, Terms, Answers), and their laws (Usual, Budget, Limit, Laws).
pub mod Tol
pub mod Terms
pub mod Answers
pub mod Usual
pub mod Budget
pub mod Laws
pub mod Limit
