-- What a crate above may cite is Laws.
mod Addresses
mod Tells
mod Uncovered
mod Entering
mod RootCounts
mod Judged
mod Variables
mod Leaves
mod Walking
mod Outcomes
mod Answers
mod Nodes
mod Steps
mod Visits
mod Places
mod Sound
mod Skips
mod BookLeaf
mod BookEnds
mod BookAnswers
mod Laid
mod Demand3
mod Computed
mod Judgements
pub mod Laws
