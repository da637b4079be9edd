-- What the functions promise about their answers, what the next line of an input is, when a file may be replaced, and how a byte of
-- a word is shown.
pub mod Answers
pub mod Input
pub mod Replacing
pub mod Messages
