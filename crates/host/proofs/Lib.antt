pub mod Sizes
pub mod Rows
pub mod Tables
pub mod Places
pub mod Repeats
pub mod Meanings
pub mod Altering
