pub mod Answers
pub mod Frame
pub mod Laws
pub mod Lent
pub mod Refusals
pub mod Texts
pub mod Views
