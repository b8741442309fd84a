mod RefusalLaws
pub mod ObstacleLaws
pub mod SendingLaws
pub mod SeatLaws
