pub mod Tracking
mod Settlings
