-- What the files hold, expected readings, and whether readings allow one place, as lines of text.
pub mod Fields
pub mod Lines
pub mod Expected
pub mod Rooms
pub mod Counted
