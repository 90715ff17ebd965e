-- What the functions below the operations tell: here so that their contracts can be said.
pub mod Area
pub mod Aside
pub mod Operations
pub mod RightWalk
pub mod Told
pub mod Under
