pub mod InboxLaws
