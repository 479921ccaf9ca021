pub mod Lists
pub mod Chains
pub mod Places
pub mod Layering
pub mod Moves
pub mod Walks
pub mod Tops
pub mod Fronts
