-- The laws of where cells lie, which later crates cite. They stand in the order in which they build on each other.
pub mod Place
pub mod Offsets
pub mod Vertex
pub mod Shape
pub mod Lookup
pub mod Cover
pub mod Around
pub mod Listing
pub mod Few
pub mod Middles
