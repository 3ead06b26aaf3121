-- These modules contain the definitions for the contracts of the methods in `src/edits/`.
pub mod Dedup
pub mod Drain
pub mod ExtractIf
pub mod Finish
pub mod ReplaceRange
pub mod Retain
pub mod Splice
pub mod SwapRange
