-- What the program's functions promise each other about the listing of a log.
pub mod Walks
