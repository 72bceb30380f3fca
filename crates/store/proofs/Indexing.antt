pub mod Shift
pub mod Parents
pub mod IndexLaws
pub mod StepLaws
pub mod ReplayLaws
pub mod EnterLaws
pub mod IndexFrame
