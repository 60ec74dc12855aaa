-- The theorems, each file named as the definitions that it is about.
pub mod Second
