-- The laws of the cipher. A layer above cites TableRules and Laws; the others serve the proofs of this crate's functions.
pub mod TableRules
pub mod Sums
pub mod WordLaws
pub mod RoundLaws
pub mod CachingLaws
pub mod Schedule
pub mod KeyStream
pub mod Laws
pub mod Examples
