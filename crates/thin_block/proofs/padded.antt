-- These are the lemma files about `src/padded.rt`. Rattle includes this file automatically.
pub mod PaddedLemmas
pub mod PaddedMemory
