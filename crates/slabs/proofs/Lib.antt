-- The laws behind `slabs`.
pub mod Order
pub mod Outermost
pub mod Answering
pub mod One
pub mod Spans
