-- Where cells lie, what covers the finest grid, and what the list of a tree's vertices is.
pub mod Grid
pub mod Corner
pub mod Listing
pub mod Near
