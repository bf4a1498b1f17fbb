pub mod Run
pub mod Woven
pub mod Late
pub mod Account
pub mod Demand
pub mod Again
pub mod Exact
pub mod ShutOut
