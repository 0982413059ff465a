pub mod Refusals
pub mod Sizes
pub mod Maps
pub mod Changes
pub mod Laws
