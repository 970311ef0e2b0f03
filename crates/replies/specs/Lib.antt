pub mod Replies
pub mod Within
