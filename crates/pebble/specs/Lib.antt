pub mod Boards
pub mod Slots
pub mod Calls
pub mod Groups
pub mod Moves
pub mod Laws
pub mod Links
