pub mod Listed
pub mod Claims
pub mod Wrong
