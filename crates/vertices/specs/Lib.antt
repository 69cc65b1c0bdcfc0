-- What the contracts of `list`, `list_trusting` and `cells_trusting` cite. Block is words for the steps of the walk.
pub mod Walk
pub mod Listing
pub mod Cells
pub mod Block
