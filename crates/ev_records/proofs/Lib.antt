pub mod Following
pub mod Lining
pub mod Turnings
pub mod Changing
pub mod Settling
pub mod Gatherings
pub mod Ranking
pub mod Numbering
pub mod Nearing
mod Boarding
