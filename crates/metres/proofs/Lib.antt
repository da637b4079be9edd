-- Laws of metres and centimetres, and of the bytes of a number.
pub mod Rounding
pub mod Answers
pub mod Back
pub mod PatternLaws
mod Exact
pub mod MarkLaws
mod Digits
pub mod Quarters
mod Worked
pub mod Negatives
