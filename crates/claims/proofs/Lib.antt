pub mod Cases
pub mod Refusals
pub mod Program
pub mod Numbers
pub mod Examples
pub mod EachRule
pub mod ReportCounts
pub mod Same
