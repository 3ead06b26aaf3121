-- Lemmas about the examples:
--
-- - `MovesLemmas`: a `retain` that keeps all items
-- - `NumberLemmas`: one number that is written into a sparse matrix
-- - `RunLemmas`: a run of six commands
-- - `SumLemmas`: sums over the columns of a row of a sparse matrix
-- - `TreeLemmas`: the number of nodes of a tree
-- - `WritesLemmas`: all entries of a row that are written into a sparse matrix
mod MovesLemmas
mod NumberLemmas
mod RunLemmas
mod SumLemmas
mod TreeLemmas
mod WritesLemmas
