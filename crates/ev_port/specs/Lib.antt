pub mod Told
pub mod Causes
pub mod Files
pub mod Frame
pub mod Calls
pub mod Memory
pub mod FlatFrames
