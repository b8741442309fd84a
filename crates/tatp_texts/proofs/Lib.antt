pub mod ColumnLaws
pub mod FieldLaws
pub mod LetterLaws
pub mod NumberLaws
pub mod RowTextLaws
pub mod ValueLaws
