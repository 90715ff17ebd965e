pub mod Rule
pub mod Book
pub mod Accept
pub mod Marked
pub mod Told
