-- Presolve keeps exactly the points of a model of whole numbers alone. `Statements` says it, `Reading` how it reads; `Theorem` has it, as one case of a theorem up
-- to dominance, whose other cases are best_kept's. And the activity of a row that is not rewritten is exact, in every state that presolve reaches on such a
-- model: `ActivityEverywhere` has it.
pub mod Statements
-- whole floats, lists of terms, and the invariant over the working state, for any set of points sought
pub mod PointSet
pub mod WholeFloats
pub mod Terms
pub mod Invariant
pub mod Changes
-- one file a step function: each keeps the invariant, and stops only where there is none of the points sought
pub mod Activity
pub mod WorkingRow
pub mod Quotients
pub mod Intervals
pub mod ImpliedBounds
pub mod Redundancy
pub mod Forced
pub mod OneTerm
pub mod Folding
pub mod Written
pub mod ImpliedSlack
pub mod NoTerm
-- the order of the steps, up to dominance
pub mod FourthCount
pub mod Coefficients
pub mod Dominance
pub mod Rounds
pub mod Output
pub mod Start
pub mod Theorem
-- Savelsbergh's activity by name, and closed models
pub mod ActivityExact
pub mod Example
-- and in every state that presolve reaches: the box, the rows that are not rewritten, the theorem, and a closed model in mode 2
pub mod WholeBox
pub mod UnrewrittenRows
pub mod ActivityEverywhere
pub mod Mixed
