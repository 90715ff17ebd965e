-- What a crate above may cite is Laws.
mod Keeping
mod Keeps
mod Noting
mod Sizes
mod Outcomes
mod Repairing
mod Answers
mod Computed
mod WrongRepairs
pub mod Laws
