pub mod Reaction
pub mod Settling
pub mod Remarks
pub mod Step
pub mod Bound
pub mod Inner
