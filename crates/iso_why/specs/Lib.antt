pub mod Examples
pub mod Givers
pub mod ModeReasons
pub mod Next
pub mod PlanWhy
pub mod Reach
pub mod ReasonLaws
pub mod WhyText
