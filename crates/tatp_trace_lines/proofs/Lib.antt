pub mod NumberLaws
pub mod LineLaws
pub mod PushLaws
pub mod AppendLaws
pub mod HomeTextLaws
