pub mod NewObject
pub mod WhichLabel
