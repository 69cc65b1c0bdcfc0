-- Lemmas of `word`, and what a line that agrees and a count mean, read for themselves.
pub mod Digits
pub mod Counting
