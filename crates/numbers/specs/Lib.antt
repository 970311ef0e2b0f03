pub mod Numbers
pub mod Categories
pub mod Within
