-- What follows from the definitions of the writers.
pub mod Theorems
pub mod WriteLaws
mod BufferLaws
pub mod ChainWriteLaws
pub mod FactorWriteLaws
mod JobWriteLaws
mod ReadBack
mod TableBack
mod JobBack
mod Worked
