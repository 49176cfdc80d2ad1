pub mod Lists
pub mod Sheets
pub mod Laws
pub mod Rows
pub mod Verdicts
pub mod Texts
