-- What the contracts of `lifetimes` and `lifetimes_trusting` cite. Steps is words for the steps of the call.
pub mod Needed
pub mod Trusted
pub mod Steps
