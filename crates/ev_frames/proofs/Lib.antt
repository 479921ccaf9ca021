pub mod Places
pub mod Planes
pub mod Jobs
pub mod Contents
pub mod Beginning
pub mod Closing
pub mod Standing
pub mod Costing
