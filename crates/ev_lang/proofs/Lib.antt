pub mod Splitting
pub mod Pieces
pub mod Rows
pub mod Headings
pub mod Texts
