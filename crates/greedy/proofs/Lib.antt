mod Steps
mod Turns
pub mod Going
mod Rows
mod Tries
mod Columns
pub mod Starts
mod GivenUp
pub mod Cards
