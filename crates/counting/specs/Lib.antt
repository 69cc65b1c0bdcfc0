-- What the contracts of `counting` cite. Printed is the page to read first; Writing is words for the private steps.
pub mod Vertices
pub mod Printed
pub mod Writing
