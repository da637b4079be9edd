-- The laws on records that wait in a buffer.
mod WaitLaws
