-- These lemmas are about loops that write the entries of a row into a matrix. Each iteration writes
-- one entry, and no two entries are written at the same place.
use Rattle.std.proofs.Common.{◌≡◌, ◌≢◌, ℕ, ◌+◌, ◌<◌, ◌≤◌, List, Some, None, inl, inr, length, ap, arith, refl, subst, sym, ◌∙◌}
use Rattle.std.specs.FinMap as columns
use Rattle.std.specs.Option.{unwrap_or}
use Rattle.std.specs.Prelude.{slice_index_or}
use Rattle.std.proofs.lemmas.Bool.{cases_eq, cases_lt}
use Rattle.thin_rows.specs.Table.{Columns, Table, row_at, value_at}
use Rattle.thin_rows.proofs.TableLemmas.{in_order, is_listed, listed}

-- `None` never equals `Some x`, so the assumption that they are equal implies every statement `P`.
never : {P : Type 0} {x : ℕ} → None ≡ Some x → P
never e = cc

-- In this module, a loop writes the entries of `row` into a matrix. Before the loop, the number at
-- column `j` is `old j`. Writing `v` over `u` results in `write u v`.
module _ (write : ℕ → ℕ → ℕ) (row : Columns ℕ) (old : ℕ → ℕ) where
  abbrev column : ℕ → ℕ
  column k = (slice_index_or (columns.entries row) k (0, 0)).0

  abbrev number : ℕ → ℕ
  number k = (slice_index_or (columns.entries row) k (0, 0)).1

  -- `IsWritten n now` holds if, after the first `n` entries of the row have been written, the
  -- number at each column `j` is `now j`.
  pub record IsWritten (n : ℕ) (now : ℕ → ℕ) : Type 0 where
    pub done : (k : ℕ) → k < n → now (column k) ≡ write (old (column k)) (number k)
    pub left : (j : ℕ) → ((k : ℕ) → k < n → column k ≢ j) → now j ≡ old j

  -- `IsWritten 0 old` holds: before any entry is written, the number at each column `j` is `old j`.
  pub none_written : IsWritten 0 old
  none_written = record { done = λ k less. absurd (omega arith); left = λ j none. refl }

  -- Suppose that `IsWritten n now` holds: after the first `n` entries have been written, the number
  -- at each column `j` is `now j`. If the entry at index `n` is written next, and the number at
  -- each column `j` is then `next j`, then `IsWritten (n + 1) next` holds.
  pub one_more : (n : ℕ) (now next : ℕ → ℕ) → n < length (columns.entries row) → IsWritten n now
      → next (column n) ≡ write (now (column n)) (number n)
      → ((j : ℕ) → j ≢ column n → next j ≡ now j) → IsWritten (n + 1) next
  one_more n now next inside h here others = record {
    done = λ k less. elim (cases_eq k n) [
      | inl same ↦ subst (λ m. next (column m) ≡ write (old (column m)) (number m)) (sym same)
          (here ∙ ap (λ u. write u (number n)) (h.left (column n)
          (λ m before equal. omega (arith, in_order row m n (0, 0) before inside, equal))))
      | inr other ↦ (let before : k < n = omega (arith, less, other) in
          others (column k)
          (λ equal. omega (arith, in_order row k n (0, 0) before inside, equal))
          ∙ h.done k before)
    ];
    left = λ j none. others j (λ equal. none n (omega arith) (sym equal))
        ∙ h.left j (λ k less. none k (omega (arith, less)));
  }

  -- Suppose that the numbers are `now` after `n` writes, and `next` after the entry at index `n`
  -- has been written. Then `IsWritten (n + 1) next` holds.
  pub next_written : (entries : List (ℕ × ℕ)) → entries ≡ columns.entries row → (n : ℕ)
      (now next : ℕ → ℕ) → n < length entries → IsWritten n now
      → next (slice_index_or entries n (0, 0)).0
      ≡ write (now (slice_index_or entries n (0, 0)).0) (slice_index_or entries n (0, 0)).1
      → ((j : ℕ) → j ≢ (slice_index_or entries n (0, 0)).0 → next j ≡ now j)
      → IsWritten (n + 1) next
  next_written entries is = rw is one_more

  -- Suppose that all `n` entries of `row` have been written, and that `now j` is the resulting
  -- number at column `j`. Let `v` be the number of `row` in column `j`, or 0 if `row` has no entry
  -- there. If `write (old j) 0` is `old j`, then `now j` is `write (old j) v`.
  pub all_written : (n : ℕ) (now : ℕ → ℕ) → n ≡ length (columns.entries row) → IsWritten n now
      → (j : ℕ) → write (old j) 0 ≡ old j
      → now j ≡ write (old j) (unwrap_or (columns.get row j) 0)
  all_written n now all h j zero =
      elim (columns.get row j) as (λ o. columns.get row j ≡ o
      → now j ≡ write (old j) (unwrap_or o 0)) [
        | Some v ↦ λ there.
            let at = is_listed row j v there in
            let same : (slice_index_or (columns.entries row) at.0 (0, 0)) ≡ (j, v) = at.2 (0, 0) in
            (λ i. now (sym same i).0) ∙ (h.done at.0 (omega (arith, at.1, all))
            ∙ (λ i. write (old (same i).0) (same i).1))
        | None ↦ λ none. h.left j (λ k less same. never (sym none
            ∙ ((λ i. columns.get row (sym same i))
            ∙ listed row k (0, 0) (omega (arith, less, all))))) ∙ sym zero
      ] refl

-- If the table `t` has no value in the columns from `n` onward, then all entries of each row are in
-- columns less than `n`.
pub columns_below : (t : Table ℕ) (n : ℕ) → ((i j : ℕ) → n ≤ j → value_at t i j ≡ None) → (i : ℕ)
    (entries : List (ℕ × ℕ)) → entries ≡ columns.entries (row_at t i) → (k : ℕ)
    → k < length entries → (slice_index_or entries k (0, 0)).0 < n
columns_below t n none i entries is = rw is (λ k inside.
    elim (cases_lt (slice_index_or (columns.entries (row_at t i)) k (0, 0)).0 n) [
      | inl less ↦ less
      | inr past ↦ never (sym (none i _ past) ∙ listed (row_at t i) k (0, 0) inside)
    ])
