mod Counts
mod IdLoop
mod SideLaws
mod Clauses
mod Listing
mod Sides
mod Places
mod Occurrences
mod Rules
mod Above
mod FirstBad
mod Computed
mod Accepting
mod Listed
pub mod Laws
