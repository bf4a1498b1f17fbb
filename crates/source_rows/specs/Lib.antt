pub mod Shared
pub mod Rows
pub mod Demands
pub mod Elsewhere
pub mod Claims
