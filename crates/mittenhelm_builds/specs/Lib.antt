-- What the contracts of `mittenhelm_builds` cite, and the order of the words as the header tells it.
pub mod Words
pub mod Header
