-- What follows from the definitions of typed text.
mod Scans
mod Values
mod Lines
pub mod WordLaws
mod NumberLaws
pub mod Lengths
pub mod Forms
pub mod TypedLaws
mod Held
pub mod HeldRecords
pub mod FaultLaws
pub mod Fields
