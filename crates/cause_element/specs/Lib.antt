pub mod Element
pub mod Claims
