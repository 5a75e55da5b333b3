pub mod BareLaws
pub mod CallerLaws
pub mod PassLaws
