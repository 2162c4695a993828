pub mod TailLaws
pub mod AppendLaws
