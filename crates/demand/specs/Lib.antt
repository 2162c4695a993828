pub mod Run
pub mod Clean
pub mod Faults
pub mod Demand
pub mod Final
