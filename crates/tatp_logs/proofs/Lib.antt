pub mod PartLaws
pub mod KeptListLaws
pub mod KeptReplyLaws
pub mod KeptAskLaws
pub mod LogLaws
pub mod KeptReceiptLaws
pub mod CompletedCallLaws
