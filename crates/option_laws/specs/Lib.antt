pub mod Bitmap
pub mod ReadsBack
pub mod Example
pub mod Says
