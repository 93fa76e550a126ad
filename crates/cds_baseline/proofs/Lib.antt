pub mod NumberLaws
pub mod SlopeLaws
pub mod TangentLaws
pub mod HullLaws
pub mod NodeLaws
pub mod PointLaws
