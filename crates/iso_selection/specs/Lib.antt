pub mod Lists
pub mod Patterns
pub mod PickedPlans
pub mod Picks
pub mod Results
pub mod Shards
pub mod Wishes
