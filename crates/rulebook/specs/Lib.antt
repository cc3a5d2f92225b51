pub mod Layout
pub mod View
pub mod Rows
pub mod Reads
pub mod inner
