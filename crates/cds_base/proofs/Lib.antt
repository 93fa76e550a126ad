pub mod Reading
pub mod ToldLaws
pub mod Doors
pub mod SearchLaws
pub mod NamedLaws
