-- What a search answers: windows, matching, dropping, the walk by quarters, and chart order.
pub mod Windows
pub mod Questions
pub mod Walk
pub mod Answers
pub mod Cells
pub mod Counts
pub mod Holding
