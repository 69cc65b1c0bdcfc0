-- The laws behind `lifetimes`.
pub mod Same
pub mod Numbers
pub mod Edges
pub mod Spanning
pub mod Counting
pub mod Leaves
pub mod Cells
pub mod Joining
pub mod One
