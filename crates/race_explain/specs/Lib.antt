pub mod Shown
pub mod Marked
pub mod Explained
pub mod Laws
pub mod Examples
