pub mod Block
pub mod Checksum
pub mod Segments
