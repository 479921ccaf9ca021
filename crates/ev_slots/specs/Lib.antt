pub mod Slots
pub mod Seats
pub mod Lending
pub mod KeptPlaces
