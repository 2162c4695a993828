pub mod Answer
pub mod Character
pub mod Class
pub mod Parity
pub mod Password
pub mod Test
pub mod Transaction
pub mod Text
