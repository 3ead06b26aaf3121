-- These are the lemma files about `src/sizes.rt`. Rattle includes this file automatically.
pub mod SizesLemmas
