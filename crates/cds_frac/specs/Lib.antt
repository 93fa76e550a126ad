pub mod Divisors
pub mod Fraction
pub mod FractionOrder
pub mod FractionLaws
pub mod Decimals
