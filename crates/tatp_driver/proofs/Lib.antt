pub mod DrawnCallLaws
pub mod DrawnWordsLaws
