pub mod DrawnLaws
