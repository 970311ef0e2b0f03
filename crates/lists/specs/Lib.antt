pub mod Called
pub mod Reader
pub mod Tables
