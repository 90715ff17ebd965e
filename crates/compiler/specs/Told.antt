-- What the functions below the operations tell: here so that their contracts can be said.
pub mod Loaded
pub mod NodeTold
pub mod RootTold
pub mod Stands
pub mod Tables
