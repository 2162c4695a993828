pub mod Deletion
pub mod Inner
