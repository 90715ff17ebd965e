pub mod Tree
pub mod Path
pub mod Rows
pub mod Compile
pub mod Find
pub mod Root
pub mod Layout
pub mod Told
