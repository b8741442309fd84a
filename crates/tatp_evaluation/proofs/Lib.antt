pub mod WriteLaws
pub mod ReadLaws
pub mod DestinationLaws
