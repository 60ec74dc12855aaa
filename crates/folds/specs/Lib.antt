-- Folding on the slices: a row where it stands, what a step leaves apart from it, and the cycle of `fold_fixed` and `hold_rewrites`.
pub mod Apart
pub mod Sized
pub mod Written
pub mod Stands
pub mod Counting
pub mod Folding
pub mod Keeping
pub mod FoldStep
pub mod FoldLoop
pub mod Besides
pub mod Relaxing
pub mod WrittenInv
pub mod Kept
pub mod Holding
pub mod Scan
