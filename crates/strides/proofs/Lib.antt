pub mod StrideLaws
pub mod PlanLaws
