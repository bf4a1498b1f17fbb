pub mod Distinct
pub mod Chain
