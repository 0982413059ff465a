pub mod Boards
pub mod Searches
pub mod Walking
pub mod Tolls
pub mod Descents
