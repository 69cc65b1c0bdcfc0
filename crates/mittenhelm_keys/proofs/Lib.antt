-- The laws of `mittenhelm_keys`, which are read for themselves.
pub mod One
