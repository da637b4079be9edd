-- The laws on the listing of a log, part by part.
mod WalkLaws
