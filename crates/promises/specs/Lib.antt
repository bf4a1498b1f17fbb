pub mod Ends
pub mod Claims
pub mod Inserted
pub mod Night
pub mod ShutOut
