-- What follows from the definition of a field.
pub mod FieldLaws
mod Words
