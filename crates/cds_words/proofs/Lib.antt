pub mod Numbers
pub mod OptionLaws
