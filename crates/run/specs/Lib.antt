pub mod Run
pub mod Lowest
pub mod Within
