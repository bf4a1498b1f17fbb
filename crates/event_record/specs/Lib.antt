pub mod Places
pub mod Record
pub mod Encoded
pub mod Claims
