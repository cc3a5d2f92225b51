pub mod NameLaws
pub mod Numbers
