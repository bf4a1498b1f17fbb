pub mod Agree
pub mod Lawful
pub mod Only
pub mod Carried
pub mod Wrong
