pub mod FontFormat
pub mod FontReading
pub mod TextRows
