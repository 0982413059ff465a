pub mod Refusals
pub mod Records
pub mod Lines
pub mod Pages
pub mod Listings
pub mod Laws
