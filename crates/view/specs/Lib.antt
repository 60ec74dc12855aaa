-- What the working slices show of the definition's state, its invariant, and the form of the port's contracts.
pub mod Call
pub mod Shows
pub mod Inv
pub mod Acts
pub mod Lists
pub mod Marks
pub mod Adjacency
pub mod Bounds
pub mod Steps
pub mod Renamed
pub mod Changes
pub mod Known
pub mod Rows
pub mod Settled
