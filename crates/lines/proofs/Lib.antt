pub mod Laws
pub mod Lines
pub mod Claims
pub mod Wrong
