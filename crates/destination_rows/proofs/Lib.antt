pub mod Agree
pub mod Lawful
pub mod Only
pub mod Wrong
