pub mod Laws
pub mod Placed
pub mod Steps
pub mod Empty
pub mod Claims
pub mod Wrong
