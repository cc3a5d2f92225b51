pub mod Digits
pub mod Parts
mod Leading
mod RuleForms
mod Checks
