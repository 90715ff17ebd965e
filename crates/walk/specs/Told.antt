-- What the functions below the operations tell: here so that their contracts can be said.
pub mod State
pub mod Taken
pub mod WithBook
