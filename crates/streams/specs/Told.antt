-- What the functions tell: here so that their contracts can be said.
pub mod Told
