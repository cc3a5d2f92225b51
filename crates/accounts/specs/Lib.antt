pub mod View
pub mod Answered
pub mod inner
