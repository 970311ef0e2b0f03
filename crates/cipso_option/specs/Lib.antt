pub mod Option
pub mod Within
