mod ListLaws
pub mod RuleLaws
pub mod NameLaws
pub mod LoopLaws
pub mod ReadingLaws
pub mod AgainLaws
pub mod ModuleLaws
pub mod SavingLaws
