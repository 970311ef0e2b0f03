pub mod Labels
pub mod Effects
pub mod MappingText
pub mod OverrideAndLookUp
pub mod OldFiles
