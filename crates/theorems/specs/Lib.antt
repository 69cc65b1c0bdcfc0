-- What README and the header state as proved.
pub mod Starred
pub mod Settled
pub mod Theorems
