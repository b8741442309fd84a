pub mod PartLaws
pub mod MergeLaws
pub mod WritingLaws
