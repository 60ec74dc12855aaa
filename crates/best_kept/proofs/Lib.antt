-- The theorems, each file named as the definitions that it is about.
pub mod Blocked
pub mod Moved
pub mod DualFixing
pub mod LeastExists
pub mod BestKept
pub mod BestExample
