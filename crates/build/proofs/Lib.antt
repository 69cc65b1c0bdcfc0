-- The laws of `build`. Ring and Laws are what later crates cite; One is read for itself.
pub mod Walk
pub mod Ring
pub mod Laws
pub mod Asking
pub mod One
