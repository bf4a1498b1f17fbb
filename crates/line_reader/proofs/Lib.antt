pub mod Laws
pub mod Numbers
pub mod Claims
pub mod Wrong
