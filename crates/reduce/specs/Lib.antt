-- presolve up to its settled rows, and the last look at the rows.
pub mod Settling
pub mod Reducing
