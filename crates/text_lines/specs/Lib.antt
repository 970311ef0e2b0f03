pub mod TextLines
pub mod Within
