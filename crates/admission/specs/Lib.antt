pub mod Content
pub mod Admission
