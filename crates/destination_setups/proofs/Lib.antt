pub mod Setups
pub mod Wrong
