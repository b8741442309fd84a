pub mod IdLaws
pub mod FindLaws
pub mod NumberLaws
pub mod HomeLaws
