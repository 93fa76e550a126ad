pub mod Ranges
pub mod Fields
pub mod Values
pub mod Stated
pub mod Refusal
pub mod Seen
