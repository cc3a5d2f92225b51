pub mod Chunks
pub mod Improper
pub mod Listing
