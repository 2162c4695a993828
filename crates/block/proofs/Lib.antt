pub mod ChecksumLaws
pub mod FrameLaws
pub mod SegmentsLaws
