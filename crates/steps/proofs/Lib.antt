pub mod PlanTurns
