pub mod Rules
pub mod Judged
pub mod StandsFor
pub mod ReplayState
pub mod After
pub mod RulesKept
