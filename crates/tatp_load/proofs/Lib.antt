pub mod CallLaws
pub mod RowLaws
pub mod WrittenLaws
