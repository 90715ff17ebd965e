-- What the functions below the operation tell: here so that their contracts can be said.
pub mod Told
