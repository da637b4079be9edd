-- Text as bytes, and a text put into a buffer.
pub mod Texts
pub mod Puts
