-- The records: log, chain table and job as bytes.
pub mod Bytes
pub mod LogRecords
pub mod ChainTables
pub mod Jobs
pub mod Refusals
pub mod Marks
pub mod Gathered
