pub mod Forms
pub mod Numbers
pub mod inner
