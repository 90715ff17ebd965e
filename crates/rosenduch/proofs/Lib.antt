-- What a crate above may cite is Laws.
mod Given
mod Settled
mod Refusals
mod Zeros
mod OneRule
mod Trees
mod Fitted
mod Roots
mod Runs
mod Demands
mod Repairs
mod Computed
mod WrongPrograms
pub mod Laws
