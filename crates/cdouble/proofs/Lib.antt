-- The theorems, each file named as the definitions that it is about.
pub mod Exact
pub mod TwoSumExact
pub mod ProductExact
pub mod Outward
