pub mod Rules
pub mod Causes
pub mod Report
pub mod Noted
pub mod Printable
pub mod Witness
