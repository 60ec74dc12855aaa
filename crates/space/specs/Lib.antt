-- The working slices as lists: the store, and one law a block.
pub mod Store
pub mod Blocks
