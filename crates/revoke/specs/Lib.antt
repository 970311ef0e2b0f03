pub mod Revoke
pub mod Within
