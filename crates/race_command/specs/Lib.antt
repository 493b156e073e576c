pub mod Ending
pub mod Number
pub mod Request
