-- These are the lemma files about `src/shifts.rt`. Rattle includes this file automatically.
pub mod ShiftMemory
