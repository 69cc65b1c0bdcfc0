-- What the contracts of `mittenhelm_reading` cite.
pub mod Reading
