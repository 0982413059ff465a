pub mod Faults
pub mod Judging
pub mod Sheets
pub mod Theorems
