-- `TableLemmas` and `WalkLemmas` have the lemmas about tables for the proofs of other crates. The
-- other modules are about rows, their entries, their clones, what a test keeps of them, and their
-- type.
pub mod TableLemmas
pub mod WalkLemmas
pub mod EntriesLemmas
pub mod RowLemmas
pub mod ClonesLemmas
mod KeptLemmas
mod RowTypeLemmas
