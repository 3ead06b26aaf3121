-- In contracts, a sparse table is a list of rows, and each row is a finite map from columns to
-- values.
use Rattle.std.specs.Prelude.{ℕ, ◌≡◌, ◌+◌, Bool, ◌&&◌, ◌==◌, List, [], ◌∷◌, ◌++◌, Option, slice_index_or, slice_set}
use Rattle.std.specs.Cmp.Lexicographic.{pointwise}
use Rattle.std.specs.List.{AllZip}
use Rattle.std.specs.Ordering.{nat_cmp}
use Rattle.std.specs.FinMap as map

-- `Columns V` is the type of a row: a finite map from columns to values of the type `V`.
abbrev pub Columns : Type 0 → Type 0
Columns V = map.FinMap nat_cmp V

-- `Table V` is the type of a table with values of the type `V`. A table is the list of its rows.
abbrev pub Table : Type 0 → Type 0
Table V = List (Columns V)

module _ {V : Type 0} where
  -- `row_at table i` is row `i` of the table, or the empty row if the table has no row `i`.
  abbrev pub row_at : Table V → ℕ → Columns V
  row_at table i = slice_index_or table i map.empty

  -- `value_at table i j` is the value at row `i` and column `j`, or `None` if the table has no such
  -- entry.
  abbrev pub value_at : Table V → ℕ → ℕ → Option V
  value_at table i j = map.get (row_at table i) j

  -- `with_value table i j v` is the table after the value `v` has been written at row `i` and
  -- column `j`.
  abbrev pub with_value : Table V → ℕ → ℕ → V → Table V
  with_value table i j v = slice_set table i (map.insert (row_at table i) j v)

  -- `without_value table i j` is the table after the entry at row `i` and column `j` has been
  -- removed.
  abbrev pub without_value : Table V → ℕ → ℕ → Table V
  without_value table i j = slice_set table i (map.remove (row_at table i) j)

  -- `with_empty_row table i` is the table after all entries of row `i` have been removed.
  abbrev pub with_empty_row : Table V → ℕ → Table V
  with_empty_row table i = slice_set table i map.empty

  -- `entries_in_row i entries` lists the entries of row `i`, given as pairs of column and value, as
  -- triples of row, column and value.
  abbrev pub entries_in_row : ℕ → List (ℕ × V) → List (ℕ × ℕ × V)
  entries_in_row i [] = []
  entries_in_row i (e ∷ entries) = (i, e.0, e.1) ∷ entries_in_row i entries

  -- `entries_from i rows` lists the entries of `rows` as triples of row, column and value. The
  -- first of these rows has the number `i`.
  abbrev pub entries_from : ℕ → Table V → List (ℕ × ℕ × V)
  entries_from i [] = []
  entries_from i (row ∷ rows) = entries_in_row i (map.entries row) ++ entries_from (i + 1) rows

  -- `entries_of table` lists the entries of the table as triples of row, column and value. They are
  -- sorted by row, and within a row by column.
  abbrev pub entries_of : Table V → List (ℕ × ℕ × V)
  entries_of table = entries_from 0 table

  -- `row_eq eq r s` is true if the rows `r` and `s` have entries at the same columns, and `eq` is
  -- true of the two values at each of these columns.
  abbrev pub row_eq : (V → V → Bool) → Columns V → Columns V → Bool
  row_eq eq r s = pointwise (λ e f. (e.0 == f.0) && eq e.1 f.1) (map.entries r) (map.entries s)

  -- `table_eq eq t u` is true if the tables `t` and `u` have the same number of rows and entries at
  -- the same places, and `eq` is true of the two values at each of these places.
  abbrev pub table_eq : (V → V → Bool) → Table V → Table V → Bool
  table_eq eq = pointwise (row_eq eq)

  -- `IsClonedRow clones r s` holds if the row `s` is a clone of the row `r`: it has entries at the
  -- same columns, and their values are clones. `clones x y` states that cloning `x` may result in
  -- `y`.
  abbrev pub IsClonedRow : (V → V → Type 0) → Columns V → Columns V → Type 0
  IsClonedRow clones r s =
      AllZip (λ e f. (f.0 ≡ e.0) × clones e.1 f.1) (map.entries r) (map.entries s)

  -- `IsClonedTable clones t u` holds if the table `u` is a clone of the table `t`: it has as many
  -- rows, and entries at the same places, and their values are clones.
  abbrev pub IsClonedTable : (V → V → Type 0) → Table V → Table V → Type 0
  IsClonedTable clones = AllZip (IsClonedRow clones)
