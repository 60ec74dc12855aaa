-- A model file's bytes to the lines that say whether a plan is good, which stands in the place of its objective.
pub mod Whole
