-- Defines the type of a row. Its size and alignment determine how many rows fit into the block of a
-- table.
use Rattle.std.specs.Borrow.{RattleType}
use Rattle.std.specs.declared.alloc.Allocator.{Ghosts as AllocatorGhosts}
use Rattle.thin_rows.specs.contracts.row.Row.{the_row}

-- `row_type V A allocator` is the type of a row with values of the type `V` and an allocator of the
-- type `A`. `allocator` contains the values that `A` defines for contracts and proofs only.
abbrev pub row_type : (V A : RattleType) → AllocatorGhosts A.Denot → RattleType
row_type V A allocator = the_row V A allocator
