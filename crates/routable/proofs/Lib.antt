pub mod Cards
pub mod Unaltered
