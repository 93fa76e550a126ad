pub mod Ratios
pub mod Sums
pub mod Greatest
pub mod Found
pub mod Fold
