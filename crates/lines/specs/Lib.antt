pub mod Lines
pub mod Line
pub mod Claims
