pub mod Repair
pub mod Keeps
pub mod WrongRepairs
pub mod Told
