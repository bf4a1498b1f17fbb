pub mod Fit
pub mod Table
pub mod Reading
pub mod Claims
pub mod Bench
pub mod DestinationBench
