mod Totals
mod Finds
mod Trials
mod Lefts
mod Rowless
pub mod Lengths
mod Judged
pub mod Routes
pub mod Verdicts
pub mod Holds
