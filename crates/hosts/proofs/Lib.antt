-- What holds for hosts, proved: read Hosts.
pub mod Handed
pub mod Hosts
