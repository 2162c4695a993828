mod Messages
mod Model
mod CleanModel
mod Claim
mod Tests
mod HigherLimits
mod Invariant
mod Summary
mod Agreement
mod Safety
mod Instance
pub mod RunLaws
pub mod Stops
mod CentralFollows
mod DeviceFollows
mod RunFollows
mod Lines
mod CleanClose
pub mod FinalLaws
pub mod FaultLaws
mod SameFaults
pub mod Demand
mod Example
