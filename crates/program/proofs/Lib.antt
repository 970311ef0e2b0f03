pub mod Laws
pub mod Questions
pub mod Follows
pub mod Plain
