pub mod Patching
pub mod Solids
pub mod Baring
pub mod Sheeting
pub mod Imaging
pub mod Texting
pub mod Drawing
pub mod Testing
