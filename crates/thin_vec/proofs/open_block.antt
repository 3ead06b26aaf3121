-- This file lists the modules of lemmas about `src/open_block/`. Rattle includes this file
-- automatically, so `Lib.antt` does not mention it.
pub mod PairTestLemmas
pub mod MiddleLemmas
pub mod RetainMiddleLemmas
pub mod StepLemmas
pub mod TestLemmas
pub mod WriteLemmas
