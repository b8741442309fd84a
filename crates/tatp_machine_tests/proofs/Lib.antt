pub mod TwoSubscriberLaws
