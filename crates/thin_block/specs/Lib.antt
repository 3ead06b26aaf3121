-- These modules contain the definitions that the contracts use, the proofs that the growth rules
-- keep their law (`IsLawful`), and the type former of `Block`. The type former says which values a
-- block contains.
pub mod Capacity
pub mod Growth
pub mod GrowthLaws
pub mod PowerLaws
pub mod Slots
pub mod Cost
pub mod Ownership
pub mod Words
pub mod InPlace
pub mod Block
pub mod Lends
pub mod Shifts
pub mod formers
