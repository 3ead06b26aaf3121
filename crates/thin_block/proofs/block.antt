-- These are the lemma files about `src/block.rt`. Rattle includes this file automatically.
pub mod SendLemmas
