-- Definitions for the contracts of this crate:
--
-- - `Table`: tables
-- - `Walk`: what the iterator over a table yields
-- - `Entries`: how a row stores its entries
-- - `RowType` and `EntryType`: the types of rows and entries
-- - `Lends`: what a row or a table contains after a borrow has ended
pub mod Table
pub mod Walk
pub mod Entries
pub mod RowType
pub mod EntryType
pub mod Lends
