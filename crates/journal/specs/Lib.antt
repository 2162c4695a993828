pub mod Encoding
pub mod Walk
pub mod Storage
pub mod Survey
pub mod Cursor
