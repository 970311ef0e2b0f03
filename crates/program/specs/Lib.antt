pub mod Program
pub mod Turns
pub mod Steps
pub mod Within
