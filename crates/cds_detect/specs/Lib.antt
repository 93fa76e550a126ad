pub mod Slopes
pub mod Bunches
pub mod Classes
pub mod Settings
pub mod Spans
pub mod Raw
pub mod Climbs
pub mod Windows
