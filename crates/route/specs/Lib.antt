pub mod Holds
pub mod Grids
pub mod Told
pub mod Routed
