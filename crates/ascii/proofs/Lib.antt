pub mod Options
pub mod Places
