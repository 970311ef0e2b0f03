pub mod Contracts
pub mod Calls
pub mod PlainReaders
