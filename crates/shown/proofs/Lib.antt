-- What follows from the definitions of what is shown.
pub mod Fitting
mod ShownLaws
