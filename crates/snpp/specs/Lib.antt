pub mod Command
pub mod Reaction
pub mod State
pub mod Step
pub mod Driver
pub mod Inner
