-- These are the lemma files that are not about one source. Other crates may use only the files
-- that are `pub`.
mod WalkPrelude
mod HeaderMemory
mod SlotMemory
mod MethodSignatures
mod Addresses
mod WordConversionLemmas
mod BlockMemory
mod SharedRefLemmas
mod BorrowLemmas
pub mod BlockLemmas
pub mod CapacityLemmas
pub mod SlotsLemmas
pub mod ResultLemmas
