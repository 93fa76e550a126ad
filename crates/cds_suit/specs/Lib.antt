pub mod Verdict
pub mod Check
pub mod Deviation
pub mod Square
