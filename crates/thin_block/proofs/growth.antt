-- These are the lemma files about `src/growth/`. Rattle includes this file automatically.
pub mod PowersLemmas
