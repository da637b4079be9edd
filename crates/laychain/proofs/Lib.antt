-- The laws on a table that is made chain by chain.
mod TableLaws
