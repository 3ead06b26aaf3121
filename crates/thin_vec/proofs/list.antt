-- This file lists the modules of lemmas about `src/list/`. Rattle includes this file automatically,
-- so `Lib.antt` does not mention it.
pub mod AppendSplitLemmas
pub mod CapacityChangeLemmas
pub mod ClonesLemmas
pub mod ExtendLemmas
pub mod InsertRemoveLemmas
pub mod ReservesLemmas
