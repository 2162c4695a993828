pub mod RejoinLaws
pub mod WireLaws
