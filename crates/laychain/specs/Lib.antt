-- What the program's functions promise about the table that they make.
pub mod Tables
