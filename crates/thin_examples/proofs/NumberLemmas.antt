-- These lemmas state how writing one number into a matrix changes the numbers of the matrix.
use Rattle.std.proofs.Common.{◌≡◌, ◌≢◌, ℕ, ◌<◌, ◌≤◌, ◌==◌, ◌&&◌, ◌^◌, if◌then◌else◌, Bool, true, false, inl, inr, length, OnErr, OnOk, Result, Ok, Err, ap, refl, sym, ◌∙◌}
use Rattle.std.specs.Option.{unwrap_or}
use Rattle.std.proofs.lemmas.Bool.{and_from, and_left, and_right, cases_eq, eq-eqb, ne_eqb}
use Rattle.thin_rows.specs.Table.{Table, with_value, without_value}
use Rattle.thin_rows.proofs.TableLemmas.{columns_left, columns_unchanged, outside, removed, rows_left, rows_unchanged, written}
use Rattle.thin_examples.specs.Numbers.{number_at}

if_true : {b : Bool} (x y : ℕ) → b ≡ true → (if b then x else y) ≡ x
if_true x y e = ap (λ (b : Bool). if b then x else y) e

if_false : {b : Bool} (x y : ℕ) → b ≡ false → (if b then x else y) ≡ y
if_false x y e = ap (λ (b : Bool). if b then x else y) e

-- Suppose that `f` and `g` differ at most at `(i, j)`, and that `f i j` is `v`. Then `f k l` is
-- `if k == i && l == j then v else g k l`.
pub at_place : (f g : ℕ → ℕ → ℕ) (i j v : ℕ) → f i j ≡ v → ((k l : ℕ) → l ≢ j → f k l ≡ g k l)
    → ((k l : ℕ) → k ≢ i → f k l ≡ g k l)
    → (k l : ℕ) → f k l ≡ (if k == i && l == j then v else g k l)
at_place f g i j v here columns rows k l = elim (cases_eq k i) [
  | inl row ↦ elim (cases_eq l j) [
    | inl column ↦ (λ x. f (row x) (column x)) ∙ (here
        ∙ sym (if_true v (g k l) (and_from _ _ (eq-eqb k i row) (eq-eqb l j column))))
    | inr other ↦ columns k l other
        ∙ sym (if_false v (g k l) (and_right (k == i) (l == j) (ne_eqb l j other)))
  ]
  | inr other ↦ rows k l other
      ∙ sym (if_false v (g k l) (and_left (k == i) (l == j) (ne_eqb k i other)))
]

-- In this module, `f` and `g` are functions of a row and a column. They agree everywhere except
-- possibly at row `i` and column `j`, where the value of `f` is `v`.
module _ (f g : ℕ → ℕ → ℕ) (i j v : ℕ)
    (told : (k l : ℕ) → f k l ≡ (if k == i && l == j then v else g k l)) where
  pub here : f i j ≡ v
  here = told i j ∙ if_true v (g i j) (and_from _ _ (eq-eqb i i refl) (eq-eqb j j refl))

  pub other_columns : (k l : ℕ) → l ≢ j → f k l ≡ g k l
  other_columns k l other =
      told k l ∙ if_false v (g k l) (and_right (k == i) (l == j) (ne_eqb l j other))

  pub other_rows : (k l : ℕ) → k ≢ i → f k l ≡ g k l
  other_rows k l other =
      told k l ∙ if_false v (g k l) (and_left (k == i) (l == j) (ne_eqb k i other))

-- If `f` agrees with `h` in row `i`, and with `g` in all other rows, then `f k l` is
-- `if k == i then h k l else g k l`.
pub at_row : (f g h : ℕ → ℕ → ℕ) (i : ℕ) → ((l : ℕ) → f i l ≡ h i l)
    → ((k l : ℕ) → k ≢ i → f k l ≡ g k l)
    → (k l : ℕ) → f k l ≡ (if k == i then h k l else g k l)
at_row f g h i here rows k l = elim (cases_eq k i) [
  | inl row ↦ (λ x. f (row x) l) ∙ (here l ∙ ((λ x. h (sym row x) l)
      ∙ sym (if_true (h k l) (g k l) (eq-eqb k i row))))
  | inr other ↦ rows k l other ∙ sym (if_false (h k l) (g k l) (ne_eqb k i other))
]

module _ (t : Table ℕ) (i j : ℕ) where
  -- If row `i` of the table `t` exists, then writing `v` at `(i, j)` changes the number there to
  -- `v`, and changes no other number.
  pub number-with_value : (v : ℕ) → i < length t → (k l : ℕ)
      → number_at (with_value t i j v) k l ≡ (if k == i && l == j then v else number_at t k l)
  number-with_value v inside =
      at_place (number_at (with_value t i j v)) (number_at t) i j v
      (ap (λ o. unwrap_or o 0) (written t i j v inside))
      (λ k l other. ap (λ o. unwrap_or o 0) (columns_unchanged t i j k l v other))
      (λ k l other. ap (λ o. unwrap_or o 0) (rows_unchanged t i j k l v other))

  -- Removing the entry at row `i` and column `j` of the table `t` changes the number there to `v`,
  -- which is 0, and changes no other number.
  pub number-without_value : (v : ℕ) → v ≡ 0 → (k l : ℕ)
      → number_at (without_value t i j) k l ≡ (if k == i && l == j then v else number_at t k l)
  number-without_value v zero =
      at_place (number_at (without_value t i j)) (number_at t) i j v
      (ap (λ o. unwrap_or o 0) (removed t i j) ∙ sym zero)
      (λ k l other. ap (λ o. unwrap_or o 0) (columns_left t i j k l other))
      (λ k l other. ap (λ o. unwrap_or o 0) (rows_left t i j k l other))

-- If both `x` and `y` are less than `n`, then `if b then x else y` is less than `n`, whatever the
-- boolean `b` is.
either_below : (b : Bool) (x y n : ℕ) → x < n → y < n → (if b then x else y) < n
either_below true x y n first second = first
either_below false x y n first second = second

-- Suppose that the tables `t` and `u` differ only at `(i, j)`, where `u` has the number `v`. If `v`
-- and all numbers of `t` are less than `2 ^ 64`, so are all numbers of `u`.
pub still_small : (t u : Table ℕ) (i j v : ℕ) → v < 2 ^ 64
    → ((k l : ℕ) → number_at t k l < 2 ^ 64)
    → ((k l : ℕ) → number_at u k l ≡ (if k == i && l == j then v else number_at t k l))
    → (k l : ℕ) → number_at u k l < 2 ^ 64
still_small t u i j v fits small told k l =
    rw (told k l) (either_below (k == i && l == j) v (number_at t k l) (2 ^ 64) fits (small k l))

-- Suppose that all numbers of the table `t` are less than `2 ^ 64`. If a call turns `t` into `u`,
-- either by writing a number `v < 2 ^ 64` or by failing without any effect, then all numbers of `u`
-- are less than `2 ^ 64`.
pub small_if_written : {X E : Type 0} (result : Result X E) (t u : Table ℕ) (i j v : ℕ)
    → i < length t → v < 2 ^ 64 → ((k l : ℕ) → number_at t k l < 2 ^ 64)
    → OnOk result (u ≡ with_value t i j v) → OnErr result (u ≡ t)
    → (k l : ℕ) → number_at u k l < 2 ^ 64
small_if_written (Ok _) t u i j v inside fits small is same =
    rw is (still_small t _ i j v fits small (number-with_value t i j v inside))
small_if_written (Err _) t u i j v inside fits small is same = rw same small

-- If the table `t` has no row `i`, then its number at row `i` and column `j` is 0.
pub no_row : (t : Table ℕ) (i j : ℕ) → length t ≤ i → number_at t i j ≡ 0
no_row t i j past = ap (λ o. unwrap_or o 0) (outside t i j past)
