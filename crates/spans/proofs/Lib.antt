-- The laws behind `spans`.
pub mod Lent
pub mod HowMany
pub mod Numbers
pub mod Raising
pub mod Memory
pub mod Slabbing
pub mod Yet
pub mod Entries
pub mod Spanning
pub mod Places
pub mod Going
pub mod Gathering
pub mod Finishing
