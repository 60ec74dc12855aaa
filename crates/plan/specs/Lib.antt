-- Whether a plan is good: what is said of it (Nearest, Plan), which calls are refused (Refusal), and worked cases (Cases); what the code's answers are in
-- the definition, and laws of its steps.
pub mod Nearest
pub mod Plan
pub mod Refusal
pub mod Cases
pub mod Of
pub mod Table
pub mod Accepted
pub mod Loops
