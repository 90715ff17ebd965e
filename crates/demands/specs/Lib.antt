pub mod Calls
pub mod Rust
pub mod C
pub mod Demands
