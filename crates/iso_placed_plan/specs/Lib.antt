pub mod PlacedPlan
