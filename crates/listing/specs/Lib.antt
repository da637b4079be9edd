-- The listing: what a record answers, its line, and the whole output of the program.
pub mod Answers
pub mod Listings
pub mod Putting
