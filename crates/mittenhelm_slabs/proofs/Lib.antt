-- Laws of what `mittenhelm_slabs` promises.
pub mod Same
pub mod One
