-- What the readers' contracts cite, and the laws that read a row's terms off the slices.
pub mod Reading
pub mod RowAt
pub mod Vars
pub mod Coeffs
pub mod WrittenCoeffs
pub mod Limits
pub mod Knowing
pub mod Activity
pub mod Trivial
pub mod Empty
pub mod Binaries
