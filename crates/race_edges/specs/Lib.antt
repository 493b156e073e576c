pub mod Edges
pub mod Numbers
pub mod Synchronized
pub mod EdgesSoFar
pub mod TableState
pub mod Partners
