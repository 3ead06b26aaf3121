-- Defines what a row or a table contains after it has lent one of its values as a mutable reference
-- and the borrow has ended.
use Rattle.std.specs.Prelude.{ℕ, Option}
use Rattle.std.specs.Borrow.{Lends, LendsIf, Fml, RattleType, MutBor}
use Rattle.std.specs.FinMap.{insert}
use Rattle.std.specs.declared.alloc.Allocator.{Ghosts as AllocatorGhosts}
use Rattle.thin_rows.specs.Table.{Columns, Table, with_value}
use Rattle.thin_rows.specs.contracts.row.Row.{the_row}
use Rattle.thin_rows.specs.contracts.table.Rows.{the_row as table_row}

module _ (V A : RattleType) (allocator : AllocatorGhosts A.Denot) where
  -- `LendsColumn row column r` says that `r` is a `&mut` to the value of `row` at `column`. It also
  -- says that, after the borrow has ended, this value is the final value of `r`, and nothing else
  -- in the row has changed.
  abbrev pub LendsColumn : MutBor (Columns V.Denot) → ℕ → MutBor V.Denot → Fml
  LendsColumn row column r = Lends (the_row V A allocator) V row r (insert row.now column)

  -- `LendsColumnIfSome row column r` says that `r` is a `&mut` to the value of `row` at `column`,
  -- or `None` if there is no such value. It also says that, after the borrow has ended, this value
  -- is the final value of the reference, and nothing else in the row has changed.
  abbrev pub LendsColumnIfSome : MutBor (Columns V.Denot) → ℕ → Option (MutBor V.Denot) → Fml
  LendsColumnIfSome row column r = LendsIf (the_row V A allocator) V row r
      (insert row.now column) row.now

  -- `LendsValue table i column r` says that `r` is a mutable reference to the value of `table` at
  -- row `i` and column `column`, or `None` if there is no such value. It also says that, after the
  -- borrow has ended, the table contains the final value of the reference at this place, and is
  -- otherwise unchanged.
  abbrev pub LendsValue : MutBor (Table V.Denot) → ℕ → ℕ → Option (MutBor V.Denot) → Fml
  LendsValue table i column r = LendsIf (table_row V A allocator) V table r
      (with_value table.now i column) table.now
