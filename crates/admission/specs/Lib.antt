pub mod Admission
pub mod Claims
