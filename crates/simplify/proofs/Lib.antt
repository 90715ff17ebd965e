-- The laws are this program's own: no crate stands above it.
mod Lines
mod Inputs
mod BlockTexts
mod FirstBlocks
mod NextBlocks
mod Calls
