-- Laws of what `mittenhelm_trusting` promises.
pub mod Same
pub mod One
