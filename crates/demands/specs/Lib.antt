-- What is demanded, and what hosts are told beside it. Run has the words for a build; read Demands first, then Reading.
pub mod Run
pub mod Demands
pub mod Reading
pub mod Slabs
pub mod Lifetimes
pub mod Rooms
pub mod Most
pub mod Batches
