-- The writers: what each accepts, and the bytes that it makes.
pub mod Buffers
pub mod Writing
pub mod ChainWriting
pub mod FactorWriting
pub mod JobWriting
