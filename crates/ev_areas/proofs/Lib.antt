pub mod Edging
pub mod Packing
