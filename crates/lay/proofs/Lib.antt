-- What the proofs of the library share.
pub mod Lists
