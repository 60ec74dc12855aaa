-- presolve for callers in C and Rust.
pub mod Face
pub mod PlanFace
pub mod Codes
pub mod PlanCodes
pub mod Steps
pub mod Demands
