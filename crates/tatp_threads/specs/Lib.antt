pub mod Locked
pub mod Copies
pub mod Inboxes
pub mod Calls
pub mod RunPlans
pub mod Seats
pub mod Partitions
