-- The theorems, each file named as the definitions that it is about.
pub mod Nearest
pub mod Cases
pub mod Table
pub mod Accepted
