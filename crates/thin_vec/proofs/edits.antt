-- This file lists the modules of lemmas about `src/edits/`. Rattle includes this file
-- automatically, so `Lib.antt` does not mention it.
pub mod DedupLemmas
pub mod DrainLemmas
pub mod ExtractIfLemmas
pub mod FinishLemmas
pub mod ReplaceRangeLemmas
pub mod SpliceLemmas
pub mod SwapRangeLemmas
