pub mod NameLaws
pub mod Written
