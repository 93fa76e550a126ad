pub mod Datum
pub mod Json
pub mod Toml
pub mod Refusals
pub mod Values
pub mod Section
pub mod Event
pub mod Seen
