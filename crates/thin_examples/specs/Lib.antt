-- Definitions for the contracts of this crate:
--
-- - `CountsByList`: the counts in a map whose keys are lists
-- - `EverySecond`: every second item of a list
-- - `ListsByKey`: the items of the lists in a map
-- - `Numbers`: the numbers of a sparse matrix
-- - `Tree`: the nodes of a syntax tree, and the numbers of a value
pub mod CountsByList
pub mod EverySecond
pub mod ListsByKey
pub mod Numbers
pub mod Tree
