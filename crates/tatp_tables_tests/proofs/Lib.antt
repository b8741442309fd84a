pub mod SubscriberLaws
pub mod ThreeSubscriberLaws
