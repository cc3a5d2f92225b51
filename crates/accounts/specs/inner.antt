-- Private contracts: nothing below has to be believed, since no contract of an exported function names it.
pub mod Ranged
pub mod Found
