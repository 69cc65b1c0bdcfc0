-- What the contracts of `mittenhelm_keys` cite.
pub mod Keys
