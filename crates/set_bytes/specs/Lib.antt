pub mod SetBytes
pub mod Within
