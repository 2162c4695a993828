pub mod BlockLaws
pub mod DriverLaws
pub mod FramingLaws
pub mod HeldLaws
pub mod ReachedLaws
pub mod StateLaws
pub mod WholeLaws
