pub mod NumberLaws
pub mod PassingLaws
pub mod SampleLaws
pub mod CrossingLaws
pub mod TimeLaws
