pub mod GrowthLaws
pub mod SliceLaws
pub mod DebuggerLaws
pub mod ExecutorLaws
pub mod MoverLaws
pub mod ConversationLaws
