-- This file lists the modules of lemmas. The proofs of other crates can use the modules marked
-- `pub`.
mod ListBlockLemmas
mod BoundsLemmas
pub mod GrowthLemmas
pub mod CallerLemmas
pub mod CollectLemmas
pub mod PushesLemmas
pub mod ExtendCostLemmas
pub mod FinishCostLemmas
pub mod EditLemmas
mod LendsLemmas
mod PutLemmas
mod OpenBlockLemmas
pub mod RetainLemmas
