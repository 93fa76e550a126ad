pub mod Json
pub mod Toml
pub mod Lookup
pub mod Unknown
pub mod Judging
pub mod Utf8
pub mod NamedLaws
