pub mod AnswerLaws
pub mod RecordLaws
pub mod FramerLaws
pub mod GatewayLaws
mod CallerLaws
