-- The laws behind `dual`.
pub mod Sharing
pub mod Filling
pub mod One
