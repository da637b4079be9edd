-- What the program's functions promise about the records that wait to be written out.
pub mod Waiting
