-- What the program prints, and what its functions promise each other about it.
pub mod Walks
