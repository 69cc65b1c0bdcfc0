-- What the contracts of `spans` cite. Steps is words for the steps of the call.
pub mod Least
pub mod Trusted
pub mod Steps
pub mod Tables
