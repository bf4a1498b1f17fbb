pub mod Run
pub mod Placed
pub mod Story
pub mod Claims
