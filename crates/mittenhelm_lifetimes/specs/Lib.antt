-- What the contracts of `mittenhelm_lifetimes` cite.
pub mod Most
