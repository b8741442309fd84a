pub mod ReportLaws
pub mod CallLaws
pub mod ChapterLaws
pub mod PlanLaws
pub mod SettlingLaws
