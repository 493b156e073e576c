pub mod Accesses
pub mod Examples
pub mod Notes
pub mod Races
pub mod Traces
pub mod Verdicts
