pub mod Grown
pub mod Sane
pub mod Pairs
pub mod Order
pub mod Relisted
pub mod Numbered
