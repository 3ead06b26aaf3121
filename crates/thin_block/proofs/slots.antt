-- These are the lemma files about `src/slots.rt`. Rattle includes this file automatically.
pub mod CopyCall
