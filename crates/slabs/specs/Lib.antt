-- What the contracts of `slabs` cite.
pub mod Heights
