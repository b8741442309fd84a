pub mod TupleLaws
pub mod FindLaws
pub mod KeyLaws
pub mod CountLaws
