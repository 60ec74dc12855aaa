-- What dual fixing's contracts cite, and its laws.
pub mod Flags
pub mod Barring
pub mod Fixing
