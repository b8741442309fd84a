pub mod Standard
pub mod Consistent
pub mod Performs
pub mod Locality
