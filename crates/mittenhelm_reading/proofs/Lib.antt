-- Laws that the proofs of `mittenhelm_reading` share.
pub mod One
