-- What the contracts of `dual` cite.
pub mod Dual
