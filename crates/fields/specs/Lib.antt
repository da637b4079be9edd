-- The number that the bytes of a field stand for, and a choice that the crates above share.
pub mod Fields
pub mod Choices
