-- These modules contain definitions that the contracts of `thin_vec` use.
pub mod ThinVec
pub mod Cheap
pub mod List
pub mod Edits
pub mod OpenBlock
pub mod OpenView
pub mod Put
pub mod Lends
pub mod Ranges
pub mod Convert
pub mod Shapes
pub mod VecWords
pub mod formers
-- The contracts of `thin_vec` also use these modules of the crate `thin_block`.
pub use Rattle.thin_block.specs.Capacity
pub use Rattle.thin_block.specs.Cost
pub use Rattle.thin_block.specs.Growth
