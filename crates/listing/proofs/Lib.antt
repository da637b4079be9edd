-- What follows from the definitions of the listing.
pub mod Theorems
mod Parts
mod TellLaws
mod LineLaws
pub mod Chunks
mod EachLaws
mod ListingLaws
pub mod Fitting
mod Worked
