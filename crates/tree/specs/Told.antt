-- What the functions below the operations tell: here so that their contracts can be said.
pub mod Covered
