pub mod StreamLaws
pub mod TextLaws
pub mod WritingLaws
pub mod LineReadingLaws
