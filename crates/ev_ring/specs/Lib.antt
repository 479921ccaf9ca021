pub mod Tally
pub mod Steps
pub mod RingSlots
pub mod Moves
pub mod Seen
pub mod Says
pub mod Laws
