pub mod PaddingLaws
pub mod ReadingLaws
pub mod ExtendsLaws
pub mod DecimalLaws
pub mod PrintingLaws
pub mod CallTextLaws
pub mod ArgumentLaws
