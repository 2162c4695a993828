pub mod Framing
pub mod Kind
pub mod State
pub mod Driver
pub mod Inner
