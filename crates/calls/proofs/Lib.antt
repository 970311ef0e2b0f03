pub mod Acts
pub mod Undivided
pub mod Every
pub mod Same
