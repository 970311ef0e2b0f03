pub mod Sane
pub mod Growing
pub mod Pairs
pub mod Order
pub mod Relisted
pub mod ByNumber
pub mod Numbered
