pub mod Search
pub mod Keys
