-- The laws on lines in a buffer, one after the other.
mod LineLaws
mod WalkLaws
