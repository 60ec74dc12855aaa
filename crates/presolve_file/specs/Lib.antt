-- What is printed for a file, and the laws that the code's promises rest on.
pub mod Whole
pub mod Fronts
pub mod Called
pub mod Small
pub mod Front
pub mod Fitting
pub mod Numbers
pub mod Refusals
pub mod Variables
pub mod TextFits
