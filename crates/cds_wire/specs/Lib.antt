pub mod Refusal
pub mod Seen
pub mod Values
pub mod Stated
pub mod Reply
