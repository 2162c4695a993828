pub mod ContentLaws
pub mod AdmissionLaws
pub mod NamedLaws
