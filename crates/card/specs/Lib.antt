pub mod Drawings
pub mod Scripts
pub mod Canvas
pub mod Columns
pub mod Piles
pub mod Asking
