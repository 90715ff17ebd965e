-- What a crate above may cite is Laws.
mod Words
mod Rows
mod Scan
mod Trees
mod Lists
mod Renumbers
mod Bodies
mod Near
mod Parts
mod Tables
mod Measures
mod Images
mod Walks
mod Answers
mod Pass
mod Compare
mod Leavings
mod Imaged
mod Heads
mod Above
mod Clauses
mod Computed
mod Settled
mod Answering
mod TableAnswers
pub mod Laws
