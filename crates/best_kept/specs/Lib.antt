-- Presolve keeps the least objective of a model of whole numbers alone, with dual fixing on or off. `Objective` says it, `BestKept` has it: two more cases of
-- points_kept's theorem up to dominance, since dual fixing loses no point that is not dominated.
pub mod Objective
pub mod Blocked
pub mod Moved
pub mod DualFixing
pub mod LeastExists
pub mod BestKept
pub mod BestExample
