-- What the contracts of `mittenhelm_trusting` cite.
pub mod Trusting
