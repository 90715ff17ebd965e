-- The laws are this program's own: no crate stands above it.
mod Blocks
