pub mod Writes
pub mod Within
