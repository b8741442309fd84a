pub mod AnswerLaws
pub mod CommandLaws
pub mod PlanLaws
