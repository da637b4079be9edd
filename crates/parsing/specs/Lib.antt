-- Text that a person types, and what it stands for.
pub mod Words
pub mod Numbers
pub mod Forms
pub mod Parsed
pub mod Faults
pub mod Scanning
