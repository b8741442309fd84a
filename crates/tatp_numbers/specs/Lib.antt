pub mod Homes
pub mod Listing
pub mod Lists
