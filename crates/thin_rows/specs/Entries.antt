-- A row stores its entries in a list, in increasing order of their columns. The list owns a block
-- of memory only if it has an entry.
use Rattle.std.specs.Prelude.{◌≡◌, ◌↔◌, ℕ, ◌<◌, ◌≤◌, List, T, length, slice_index_or}
use Rattle.std.specs.Ordering.{nat_cmp}
use Rattle.std.specs.FinMap.{from_sorted, is_sorted}
use Rattle.thin_vec.specs.ThinVec.{ListView}
use Rattle.thin_rows.specs.Table.{Columns}

module _ {V : Type 0} where
  -- `IsSortedByColumn entries` holds if the columns of the entries are strictly increasing.
  abbrev pub IsSortedByColumn : List (ℕ × V) → Type 0
  IsSortedByColumn entries = T (is_sorted nat_cmp entries)

  -- `IsFoundAt entries column i` holds if the entry at index `i` of the list `entries` has the
  -- column `column`.
  pub record IsFoundAt (entries : List (ℕ × V)) (column i : ℕ) : Type 0 where
    pub in_bounds : i < length entries
    pub same : (d : ℕ × V) → (slice_index_or entries i d).0 ≡ column

  -- `IsInsertionPoint entries column i` holds if an entry of `column` would be inserted at index
  -- `i`: the columns before `i` are less than `column`, and all others are greater.
  pub record IsInsertionPoint (entries : List (ℕ × V)) (column i : ℕ) : Type 0 where
    pub in_bounds : i ≤ length entries
    pub smaller : (k : ℕ) (d : ℕ × V) → k < i → (slice_index_or entries k d).0 < column
    pub greater : (k : ℕ) (d : ℕ × V) → i ≤ k → k < length entries
        → column < (slice_index_or entries k d).0

module _ {V A : Type 0} where
  -- `IsRow list` holds if the columns of the entries are strictly increasing, and the list owns a
  -- block of memory if and only if it has an entry.
  pub record IsRow (list : ListView (ℕ × V) A) : Type 0 where
    pub sorted : IsSortedByColumn list.items
    pub block : (0 < list.capacity) ↔ (0 < length list.items)

  -- `columns_of list` is the finite map that the entries of the list represent.
  abbrev pub columns_of : ListView (ℕ × V) A → Columns V
  columns_of list = from_sorted list.items
