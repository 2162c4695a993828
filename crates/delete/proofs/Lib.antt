pub mod AfterLaws
pub mod CompactionLaws
pub mod DeletionLaws
pub mod GoneLaws
pub mod KeptLaws
pub mod MoveLaws
pub mod NamedLaws
pub mod RemovalLaws
