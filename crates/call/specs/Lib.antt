pub mod Call
pub mod Driver
pub mod Inner
