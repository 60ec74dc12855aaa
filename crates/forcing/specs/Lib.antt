-- Forcing rows on the slices.
pub mod Forced
pub mod Fixing
