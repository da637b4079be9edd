-- What follows from the definitions of the records.
pub mod Theorems
mod ByteLaws
pub mod ReadLaws
pub mod MarkLaws
pub mod GridLaws
pub mod TableLaws
pub mod JobLaws
pub mod Pieces
pub mod RefusalLaws
mod LineLaws
pub mod Worked
