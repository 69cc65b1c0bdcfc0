-- Laws that the proofs of `mittenhelm_builds` share.
pub mod Words
pub mod Header
pub mod One
