-- The laws on the start of a file, on words that are put into a line, and on the line that comes next.
pub mod OpenLaws
pub mod WordLaws
pub mod LineLaws
