-- What the contracts of `mittenhelm_slabs` cite.
pub mod Spans
