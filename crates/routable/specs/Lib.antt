pub mod Cards
pub mod Laws
