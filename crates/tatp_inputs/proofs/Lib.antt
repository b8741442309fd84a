pub mod PartLaws
pub mod RowLaws
pub mod DotLaws
