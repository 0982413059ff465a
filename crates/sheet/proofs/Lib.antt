pub mod Bodies
pub mod Places
pub mod Extents
mod Outside
pub mod Nexts
pub mod Readings
pub mod Runs
pub mod Turns
