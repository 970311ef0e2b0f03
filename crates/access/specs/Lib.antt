pub mod SevenRules
pub mod Access
pub mod Within
