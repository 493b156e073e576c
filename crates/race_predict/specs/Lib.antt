pub mod Fronts
pub mod Attempts
pub mod Certified
pub mod Examples
