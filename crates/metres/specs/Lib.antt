-- Metres and whole centimetres, and the bytes of a number.
pub mod Metres
pub mod Nearest
pub mod Marks
pub mod Hundredfolds
pub mod Patterns
