pub mod Points
pub mod Sums
pub mod Line
pub mod Fit
pub mod Amount
pub mod Determination
pub mod Spread
pub mod LeastSquares
