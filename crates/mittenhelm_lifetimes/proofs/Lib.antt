-- Laws of what `mittenhelm_lifetimes` promises.
pub mod Same
pub mod One
