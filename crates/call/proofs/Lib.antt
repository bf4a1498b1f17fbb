pub mod Setups
pub mod Claims
pub mod Events
pub mod Source
pub mod Destination
pub mod Ends
pub mod Wrong
