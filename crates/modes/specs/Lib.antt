pub mod Modes
pub mod Within
