pub mod Naming
pub mod Wanting
pub mod Giving
