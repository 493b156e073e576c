pub mod Touches
pub mod StampsOf
pub mod Kept
pub mod KeptOf
pub mod TouchHolds
pub mod Laws
