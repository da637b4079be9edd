-- What follows from the definitions of the search.
pub mod WindowLaws
pub mod WalkLaws
pub mod AnswerLaws
pub mod CellLaws
pub mod Order
pub mod Dropping
pub mod Whole
pub mod Finished
pub mod Counting
pub mod Keeping
pub mod Limits
pub mod Raising
pub mod Filling
pub mod Outcomes
pub mod Telling
pub mod Theorems
pub mod CountLaws
mod Agreeing
pub mod Clearing
mod Signs
mod HoldLaws
mod SquareLaws
mod EndLaws
mod Asking
mod Worked
