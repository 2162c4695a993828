pub mod ReassemblyLaws
