-- A model file's bytes to the line that says whether its model is 01's farm model.
pub mod Whole
