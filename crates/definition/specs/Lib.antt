-- The presolver as a definition, part by part as the Rust; the refusals, what an accepted call has (Accepted), and the edges; the twelve worked
-- cases.
-- The first lines of a file give the Rust's reason why the step is right, up to round-off. They are reasons: what is proved, and of which models,
-- stands in the crates rows_kept and points_kept, and where a sum overflows a reason can fail (docs/DIFFERENCES.md).
pub mod Params
pub mod Model
pub mod Of
pub mod Work
pub mod Activities
pub mod Marks
pub mod Bounds
pub mod Folds
pub mod Singles
pub mod Sides
pub mod Forcing
pub mod Implied
pub mod Wave
pub mod Rewrites
pub mod Bindings
pub mod Tighten
pub mod Dual
pub mod Begin
pub mod Rounds
pub mod Emit
pub mod Presolve
pub mod Refusal
pub mod Choices
pub mod Tests
pub mod Accepted
pub mod Cases
pub mod DualCases
pub mod ZeroCases
pub mod Edges
