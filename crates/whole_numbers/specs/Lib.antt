-- 01's farm model as a test, and a whole objective after it: the first condition that fails, and where (Fault); that none fails exactly where the model
-- is one, and its objective whole (Exactly).
pub mod Fault
pub mod Of
pub mod First
pub mod Floats
pub mod Branches
pub mod Chain
pub mod Exactly
