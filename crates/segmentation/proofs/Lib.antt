pub mod CutWholeLaws
pub mod SegmentationByLaws
pub mod SegmentationLaws
pub mod WayLaws
pub mod WholeFieldsLaws
pub mod NamedLaws
