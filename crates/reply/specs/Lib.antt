pub mod Grammar
pub mod Reading
pub mod Remarks
pub mod Inner
