pub mod Crossings
pub mod Noise
pub mod Extents
pub mod Figures
pub mod PeakTime
