pub mod Buffer
pub mod Claims
pub mod Wrong
