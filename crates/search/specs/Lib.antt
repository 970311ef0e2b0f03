pub mod Search
pub mod Bytes
pub mod Within
