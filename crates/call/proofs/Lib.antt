mod TestedLaws
pub mod DriverLaws
mod ExchangeLaws
mod LoopLaws
mod CallLaws
pub mod NamedLaws
