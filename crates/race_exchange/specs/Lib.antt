pub mod Independent
pub mod Exchange
pub mod Says
pub mod Laws
pub mod Examples
