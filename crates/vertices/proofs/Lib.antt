-- The laws behind `list`, in the order in which they build on each other.
pub mod Entries
pub mod Marks
pub mod Blocks
pub mod Glance
pub mod Places
pub mod Sound
pub mod Spot
pub mod Range
pub mod Law
pub mod Storing
pub mod Root
pub mod Rounds
pub mod Linear
pub mod One
pub mod Batches
