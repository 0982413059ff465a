pub mod Judge
pub mod Charts
pub mod Gathering
