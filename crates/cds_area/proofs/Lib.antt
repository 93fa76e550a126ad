pub mod LineLaws
pub mod AreaLaws
