pub mod Turns
pub mod Places
pub mod Stretched
pub mod Images
