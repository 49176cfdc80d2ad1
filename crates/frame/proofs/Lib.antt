pub mod Among
pub mod Appended
pub mod Frames
pub mod Small
