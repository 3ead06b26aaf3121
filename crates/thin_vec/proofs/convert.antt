-- This file lists the modules of lemmas about `src/convert/`. Rattle includes this file
-- automatically, so `Lib.antt` does not mention it.
pub mod IntoIterLemmas
