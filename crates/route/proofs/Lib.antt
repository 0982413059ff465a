pub mod Rows
pub mod Ways
pub mod Places
pub mod Plans
pub mod Grids
pub mod Links
pub mod Makings
