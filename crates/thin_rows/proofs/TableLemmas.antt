-- The values of a table after a call to one of its methods. Proofs of other crates cite these
-- lemmas.
use Rattle.std.proofs.Common.{◌≡◌, ◌≢◌, ◌==◌, ◌&&◌, ℕ, suc, ◌<◌, ◌≤◌, Bool, Decides, List, [], ◌∷◌, Some, None, true, false, inl, inr, length, length-set, set, ap, refl, sym, ◌∙◌, nat_cmp, is_eq, Less, Equal, Greater, arith, cond}
use Rattle.std.specs.FinMap as map
use Rattle.std.specs.FinMap.{entries_sorted, find, get-empty, get-entries, get-insert, get-remove, same_entries_map}
use Rattle.std.specs.Cmp.{first_so, nat_cmp_total, ranked, second_so, unsigned_Decides}
use Rattle.std.specs.Cmp.Lexicographic.{pointwise_decides}
use Rattle.std.specs.Ordering.{eq_by_cmp}
use Rattle.std.specs.Prelude.{replicate, slice_index_or}
use Rattle.std.proofs.lemmas.Bool.{cases_eq, cases_lt}
use Rattle.std.proofs.lemmas.Bool.Decides.{nat_tests}
use Rattle.std.proofs.lemmas.List.{get_or-replicate, get_or-set_other, get_or-set_same, get_or_default, get_or_past, length-replicate}
use Rattle.std.proofs.lemmas.Option.{same_Some}
use Rattle.thin_rows.specs.Table.{Columns, Table, row_at, row_eq, table_eq, value_at, with_empty_row, with_value, without_value}
use Rattle.thin_rows.proofs.EntriesLemmas.{columns_rise, find_at}

same_column : (j : ℕ) → eq_by_cmp nat_cmp j j ≡ true
same_column j = grind (arith, nat_tests)

other_column : (j l : ℕ) → l ≢ j → eq_by_cmp nat_cmp l j ≡ false
other_column j l other = grind (arith, nat_tests)

module _ {V : Type 0} where
  -- `IsAmong es e` holds if `e` is an item of the list `es`.
  abbrev pub IsAmong : List (ℕ × V) → ℕ × V → Type 0
  IsAmong es e = (k : ℕ) × (k < length es) × ((d : ℕ × V) → slice_index_or es k d ≡ e)

  pub later : (f : ℕ × V) (es : List (ℕ × V)) (e : ℕ × V) → IsAmong es e → IsAmong (f ∷ es) e
  later f es e among = (suc among.0, omega (arith, among.1), among.2)

  found_at : (j : ℕ) (v : V) (es : List (ℕ × V)) → find nat_cmp j es ≡ Some v
      → IsAmong es (j, v)
  found_at j v [] found = cc
  found_at j v (e ∷ es) found = elim (nat_cmp j e.0) as (λ o. nat_cmp j e.0 ≡ o
      → cond (is_eq o) (Some e.1) (find nat_cmp j es) ≡ Some v
      → IsAmong (e ∷ es) (j, v)) [
        | Equal ↦ λ o f. (
          0,
          omega arith,
          λ d i. (sym (ranked j e.0 Equal (sym o)) i, same_Some e.1 v f i),
        )
        | Less ↦ λ o f. later e es (j, v) (found_at j v es f)
        | Greater ↦ λ o f. later e es (j, v) (found_at j v es f)
      ] refl found

  pub outside : (t : Table V) (i j : ℕ) → length t ≤ i → value_at t i j ≡ None
  outside t i j past = ap (λ r. map.get r j) (get_or_past t i map.empty past) ∙ get-empty nat_cmp j

  -- If the new row agrees with row `i` at column `l`, then no value at column `l` changes.
  other_columns : (t : Table V) (i k l : ℕ) (row : Columns V)
      → map.get row l ≡ value_at t i l → value_at (set t i row) k l ≡ value_at t k l
  other_columns t i k l row same = elim (cases_eq k i) [
    | inl here ↦ elim (cases_lt i (length t)) [
      | inl inside ↦ (λ x. value_at (set t i row) (here x) l)
          ∙ (ap (λ r. map.get r l) (get_or-set_same t i row map.empty inside)
          ∙ (same ∙ (λ x. value_at t (sym here x) l)))
      | inr past ↦ outside (set t i row) k l (omega (arith, past, here, length-set t i row))
          ∙ sym (outside t k l (omega (arith, past, here)))
    ]
    | inr other ↦ ap (λ r. map.get r l) (get_or-set_other t i k row map.empty other)
  ]

  no_value : (t : Table V) (i l : ℕ) (row : Columns V) → map.get row l ≡ None
      → value_at (set t i row) i l ≡ None
  no_value t i l row none = elim (cases_lt i (length t)) [
    | inl inside ↦ ap (λ r. map.get r l) (get_or-set_same t i row map.empty inside) ∙ none
    | inr past ↦ outside (set t i row) i l (omega (arith, past, length-set t i row))
  ]

  pub written : (t : Table V) (i j : ℕ) (v : V) → i < length t
      → value_at (with_value t i j v) i j ≡ Some v
  written t i j v inside =
      ap (λ r. map.get r j) (get_or-set_same t i (map.insert (row_at t i) j v) map.empty inside)
      ∙ (get-insert nat_cmp_total (row_at t i) j v j
      ∙ ap (λ b. cond b (Some v) (map.get (row_at t i) j)) (same_column j))

  pub columns_unchanged : (t : Table V) (i j k l : ℕ) (v : V) → l ≢ j
      → value_at (with_value t i j v) k l ≡ value_at t k l
  columns_unchanged t i j k l v other = other_columns t i k l (map.insert (row_at t i) j v)
      (get-insert nat_cmp_total (row_at t i) j v l
      ∙ ap (λ b. cond b (Some v) (map.get (row_at t i) l)) (other_column j l other))

  pub rows_unchanged : (t : Table V) (i j k l : ℕ) (v : V) → k ≢ i
      → value_at (with_value t i j v) k l ≡ value_at t k l
  rows_unchanged t i j k l v other = ap (λ r. map.get r l)
      (get_or-set_other t i k (map.insert (row_at t i) j v) map.empty other)

  pub removed : (t : Table V) (i j : ℕ) → value_at (without_value t i j) i j ≡ None
  removed t i j = no_value t i j (map.remove (row_at t i) j)
      (get-remove nat_cmp_total (row_at t i) j j
      ∙ ap (λ b. cond b None (map.get (row_at t i) j)) (same_column j))

  pub columns_left : (t : Table V) (i j k l : ℕ) → l ≢ j
      → value_at (without_value t i j) k l ≡ value_at t k l
  columns_left t i j k l other = other_columns t i k l (map.remove (row_at t i) j)
      (get-remove nat_cmp_total (row_at t i) j l
      ∙ ap (λ b. cond b None (map.get (row_at t i) l)) (other_column j l other))

  pub rows_left : (t : Table V) (i j k l : ℕ) → k ≢ i
      → value_at (without_value t i j) k l ≡ value_at t k l
  rows_left t i j k l other = ap (λ r. map.get r l)
      (get_or-set_other t i k (map.remove (row_at t i) j) map.empty other)

  pub cleared : (t : Table V) (i j : ℕ) → value_at (with_empty_row t i) i j ≡ None
  cleared t i j = no_value t i j map.empty (get-empty nat_cmp j)

  pub rows_kept : (t : Table V) (i k l : ℕ) → k ≢ i
      → value_at (with_empty_row t i) k l ≡ value_at t k l
  rows_kept t i k l other = ap (λ r. map.get r l)
      (get_or-set_other t i k map.empty map.empty other)

  pub unwritten : (n i j : ℕ) → value_at {V = V} (replicate n map.empty) i j ≡ None
  unwritten n i j = elim (cases_lt i n) [
    | inl inside ↦ ap (λ r. map.get r j) (get_or-replicate n i map.empty map.empty inside)
        ∙ get-empty nat_cmp j
    | inr past ↦ outside (replicate n map.empty) i j
        (omega (arith, past, length-replicate n (map.empty {X = V} {R = nat_cmp})))
  ]

  -- The default entry `d` is never read, because the index `k` is in bounds.
  pub listed : (row : Columns V) (k : ℕ) (d : ℕ × V) → k < length (map.entries row)
      → map.get row (slice_index_or (map.entries row) k d).0
      ≡ Some (slice_index_or (map.entries row) k d).1
  listed row k d inside =
      get-entries row _
      ∙ find_at (slice_index_or (map.entries row) k d).0 (map.entries row) k d
      (entries_sorted row) (record {
        in_bounds = inside;
        same = λ e. ap (λ x. x.0) (get_or_default (map.entries row) k e d inside);
      })

  pub is_listed : (row : Columns V) (j : ℕ) (v : V) → map.get row j ≡ Some v
      → IsAmong (map.entries row) (j, v)
  is_listed row j v there = found_at j v (map.entries row) (sym (get-entries row j) ∙ there)

  -- `==` of two tables decides whether they are equal, if `==` of two values does.
  pub table_eq-decides : (eq : V → V → Bool) → ((x y : V) → Decides (eq x y) (x ≡ y))
      → (t u : Table V) → Decides (table_eq eq t u) (t ≡ u)
  table_eq-decides eq decides = pointwise_decides row_decides
    where
      entry_decides : (e f : ℕ × V) → Decides ((e.0 == f.0) && eq e.1 f.1) (e ≡ f)
      entry_decides e f = (
        λ h i. (
          (unsigned_Decides e.0 f.0).0 (first_so (e.0 == f.0) (eq e.1 f.1) h) i,
          (decides e.1 f.1).0 (second_so (e.0 == f.0) (eq e.1 f.1) h) i,
        ),
        λ same i. (unsigned_Decides e.0 f.0).1 (ap (λ x. x.0) same) i
            && (decides e.1 f.1).1 (ap (λ x. x.1) same) i,
      )

      row_decides : (r s : Columns V) → Decides (row_eq eq r s) (r ≡ s)
      row_decides r s =
          let told = pointwise_decides entry_decides (map.entries r) (map.entries s) in
          (λ h. same_entries_map r s (told.0 h), λ same. told.1 (ap map.entries same))

  pub in_order : (row : Columns V) (k m : ℕ) (d : ℕ × V) → k < m → m < length (map.entries row)
      → (slice_index_or (map.entries row) k d).0 < (slice_index_or (map.entries row) m d).0
  in_order row k m d before inside =
      columns_rise (map.entries row) (entries_sorted row) k m d before inside

pub ruleset values = (
  written,
  columns_unchanged,
  rows_unchanged,
  removed,
  columns_left,
  rows_left,
  cleared,
  rows_kept,
  unwritten,
  listed,
  is_listed,
  in_order,
)
