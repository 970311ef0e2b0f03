pub mod Cipso
pub mod Within
