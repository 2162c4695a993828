pub mod Segmentation
pub mod WholeFields
