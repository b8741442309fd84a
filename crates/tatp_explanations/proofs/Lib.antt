pub mod FaultLaws
pub mod ListingLaws
