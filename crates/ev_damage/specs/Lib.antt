pub mod Same
pub mod Damage
pub mod Marked
pub mod Stay
pub mod Places
pub mod SmallLists
pub mod Step
