pub mod Compiled
pub mod Told
