pub mod Lines
pub mod Follows
pub mod Tables
pub mod Steps
pub mod Others
