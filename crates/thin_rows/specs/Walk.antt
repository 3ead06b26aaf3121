-- Defines what the iterator over a table yields.
use Rattle.std.specs.Prelude.{◌≡◌, ◌⊎◌, ℕ, ◌+◌, ◌<◌, List, ◌++◌, Option}
use Rattle.std.specs.Borrow.{Bor}
use Rattle.std.specs.Iterator.{YieldsFirstBy}
use Rattle.std.specs.Iterator.Runs.{EveryRun, ItemsMapTo}
use Rattle.thin_rows.specs.Table.{Table, entries_from, entries_in_row}

module _ {V : Type 0} where
  -- `entries_left i entries rows` lists the entries that an iterator has left: first `entries`, of
  -- row `i`, and then all entries of `rows`, the rows after row `i`.
  abbrev pub entries_left : ℕ → List (ℕ × V) → Table V → List (ℕ × ℕ × V)
  entries_left i entries rows = entries_in_row i entries ++ entries_from (i + 1) rows

  -- `IsBefore e f` holds if the entry `e` comes before `f`: its row is less, or the rows are equal
  -- and its column is less.
  abbrev pub IsBefore : ℕ × ℕ × V → ℕ × ℕ × V → Type 0
  IsBefore e f = (e.0 < f.0) ⊎ ((e.0 ≡ f.0) × (e.1 < f.1))

  -- `entry_of item` is the entry to which an item of the iterator refers.
  abbrev pub entry_of : ℕ × ℕ × Bor V → ℕ × ℕ × V
  entry_of item = (item.0, item.1, item.2.now)

  -- `YieldsFirstEntry s r t` states that a call of `next` with the entries `s` left returned `r`,
  -- and left the entries `t`: it yielded the first entry of `s`, or `None` if there was none.
  abbrev pub YieldsFirstEntry : List (ℕ × ℕ × V) → Option (ℕ × ℕ × Bor V) → List (ℕ × ℕ × V)
      → Type 0
  YieldsFirstEntry = YieldsFirstBy entry_of (λ rest. rest)

-- `YieldsEntriesInOrder V` states that, for every iterator over a table with values of the type
-- `V`, calls to `next` yield the remaining entries in order.
abbrev pub YieldsEntriesInOrder : Type 0 → Type 0
YieldsEntriesInOrder V =
    EveryRun (YieldsFirstEntry {V = V}) (λ run. ItemsMapTo run entry_of run.from)
