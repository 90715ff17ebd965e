-- What a crate above may cite is Laws.
mod Rust
mod C
mod Demands
pub mod Laws
