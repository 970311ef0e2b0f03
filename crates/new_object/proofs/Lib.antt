pub mod Laws
pub mod WhichLabel
