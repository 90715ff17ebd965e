pub mod File
pub mod Printed
pub mod Told
