-- These modules contain the definitions for the contracts of the methods in `src/list/`.
pub mod Capacity
pub mod Clones
pub mod Extend
pub mod InsertRemove
pub mod Resize
