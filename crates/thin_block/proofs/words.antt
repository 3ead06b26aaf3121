-- These are the lemma files about `src/words.rt`. Rattle includes this file automatically.
pub mod MadeCall
pub mod OneWord
pub mod WordRooms
pub mod WordsLemmas
pub mod WordsMemory
