pub mod Faults
pub mod Records
pub mod Turns
pub mod Readings
pub mod Extents
pub mod Writers
pub mod Runs
pub mod Laws
