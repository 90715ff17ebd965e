pub mod Walk
pub mod Visits
pub mod ByTree
pub mod Demand
pub mod Told
