pub mod ByKind
pub mod Exactly
pub mod First
pub mod Claims
pub mod Wrong
