pub mod Fault
pub mod Words
pub mod Claims
