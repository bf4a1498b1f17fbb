pub mod Carried
pub mod Wrong
