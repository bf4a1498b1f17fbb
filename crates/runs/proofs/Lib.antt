pub mod Keyed
pub mod Woven
pub mod Late
pub mod Account
pub mod Demand
pub mod Again
pub mod Exact
pub mod ShutOut
