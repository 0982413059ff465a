pub mod Meaning
pub mod Charges
pub mod Kinds
pub mod Heats
pub mod Refusals
pub mod HeatsLemmas
pub mod KindLaws
