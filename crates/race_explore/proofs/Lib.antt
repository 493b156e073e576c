mod ListLemmas
mod LaterLemmas
mod TreeLemmas
mod NextLemmas
mod OneStep
mod WayLemmas
mod CutLemmas
mod OrderLemmas
mod WalkLemmas
mod StepLemmas
mod ScriptLemmas
mod AccessLemmas
mod CountLemmas
mod ElementLemmas
mod TallyLemmas
mod RacyLemmas
mod StandingLemmas
mod BadEndLemmas
mod NotingLemmas
mod EndLemmas
pub mod WaiterLemmas
pub mod TupleLemmas
pub mod MatchLemmas
pub mod AlikeLemmas
pub mod TurnLemmas
pub mod SettleLemmas
pub mod FireLemmas
pub mod LockstepLemmas
pub mod OpLemmas
pub mod BadLemmas
pub mod PartLemmas
pub mod ReplayLemmas
pub mod StaysLemmas
pub mod DiamondLemmas
pub mod ExchangeLemmas
pub mod RunExchange
