-- The figures of the library for C.
pub mod Figures
