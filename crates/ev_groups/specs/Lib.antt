pub mod Groups
pub mod Walk
pub mod Listed
pub mod LendingGroups
