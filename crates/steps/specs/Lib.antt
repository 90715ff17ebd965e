pub mod Right
pub mod Rewrite
pub mod Arguments
pub mod Offset
pub mod Table
pub mod Step
pub mod Simplify
pub mod Told
