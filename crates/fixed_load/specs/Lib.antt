pub mod Records
pub mod Within
