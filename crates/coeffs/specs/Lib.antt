-- What the coefficient step's contracts cite, and its laws.
pub mod Over
pub mod Bound
pub mod Along
pub mod Eligible
pub mod Keeping
