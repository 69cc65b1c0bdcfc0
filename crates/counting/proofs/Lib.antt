-- Laws of `counting`: what is called finished is a build, and later bytes are ignored (Runs); how many vertices a list has (Distinct); that there is one
-- answer only (One). The others are laws of the private steps.
pub mod Decimals
pub mod Texts
pub mod Bytes
pub mod Runs
pub mod Distinct
pub mod Trees
pub mod Lines
pub mod One
