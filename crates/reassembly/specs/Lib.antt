pub mod Reassembly
