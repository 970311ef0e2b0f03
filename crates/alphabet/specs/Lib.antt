pub mod Alphabet
pub mod Within
