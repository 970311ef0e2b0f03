pub mod Loader
pub mod Within
