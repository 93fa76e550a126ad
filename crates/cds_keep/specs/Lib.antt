pub mod Crash
pub mod Found
pub mod Held
pub mod Told
