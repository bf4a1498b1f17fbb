pub mod Claims
pub mod Wrong
