pub mod Search
pub mod Answers
pub mod Tries
pub mod Laws
