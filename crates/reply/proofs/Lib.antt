pub mod DerivationLaws
pub mod GrammarLaws
pub mod LinesLaws
pub mod RemarksLaws
pub mod SearchLaws
pub mod TestLaws
pub mod TextLaws
