-- What a host's build is, and what holds of it. Read HostRun first.
pub mod HostRun
pub mod Hosts
