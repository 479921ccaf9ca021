pub mod Sights
pub mod Alone
