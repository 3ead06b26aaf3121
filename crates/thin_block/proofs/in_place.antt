-- These are the lemma files about `src/in_place.rt`. Rattle includes this file automatically.
pub mod ArrayMemory
pub mod ArraySteps
pub mod ResizedBlock
pub mod ResizedCall
