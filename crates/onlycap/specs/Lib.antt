pub mod Onlycap
pub mod Within
