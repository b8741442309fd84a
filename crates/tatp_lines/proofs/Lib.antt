pub mod LineLaws
pub mod NumberLaws
