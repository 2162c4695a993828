pub mod Hearing
pub mod Reaction
pub mod Offer
pub mod Step
pub mod Lent
pub mod Inner
