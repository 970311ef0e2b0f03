pub mod Different
pub mod Records
pub mod Faults
pub mod Places
pub mod Lengths
