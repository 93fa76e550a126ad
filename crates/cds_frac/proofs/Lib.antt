pub mod SignLaws
pub mod Coprime
pub mod LowestTerms
pub mod Ratios
pub mod DecimalSteps
