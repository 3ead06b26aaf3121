-- A sum over the entries of a sparse row equals the sum over all columns, because a column without
-- an entry contributes 0.
use Rattle.std.proofs.Common.{◌≡◌, ◌≢◌, ℕ, zero, suc, ◌+◌, ◌*◌, ◌<◌, Bool, true, false, cond, ◌&&◌, T, List, [], ◌∷◌, Some, None, inl, inr, Ordering, Less, Equal, Greater, is_eq, is_lt, length, map, sum, sum_by, nat_cmp, ap, arith, refl, sym, ◌∙◌}
use Rattle.std.specs.Cmp.{nat_cmp_total, tied_itself}
use Rattle.std.specs.FinMap as columns
use Rattle.std.specs.FinMap.{entries_sorted, find, get-entries, is_sorted}
use Rattle.std.specs.FinMap.Entries.{below_all}
use Rattle.std.specs.Option.{unwrap_or}
use Rattle.std.specs.Ordering.{eq_by_cmp}
use Rattle.std.specs.Prelude.{slice_index_or}
use Rattle.std.proofs.lemmas.Bool.{cases_eq}
use Rattle.std.proofs.lemmas.Bool.Decides.{nat_tests}
use Rattle.std.proofs.lemmas.List.Sums.{sum-map, sum_by-cons}
use Rattle.thin_rows.specs.Table.{Columns}
use Rattle.thin_examples.specs.Numbers.{sum_below}

both_hold : (a b : Bool) → T (a && b) → T a × T b
both_hold true b h = (tt, h)
both_hold false b h = absurd h

is_less : (o : Ordering) → T (is_lt o) → is_eq o ≡ false
is_less Less h = refl
is_less Equal h = absurd h
is_less Greater h = absurd h

-- If `f j ≡ g j` for all `j` less than `n`, then the sums of `f` and of `g` over the numbers less
-- than `n` are equal.
same_sum : (f g : ℕ → ℕ) (n : ℕ) → ((j : ℕ) → j < n → f j ≡ g j) → sum_below n f ≡ sum_below n g
same_sum f g zero same = refl
same_sum f g (suc n) same =
    let rest : sum_below n f ≡ sum_below n g = same_sum f g n (λ j less. same j (omega arith)) in
    let last : f n ≡ g n = same n (omega arith) in
    λ i. rest i + last i

-- `sum_below n f` is `f 0 + f 1 + .. + f (n - 1)`. If `c < n`, `f c ≡ v + g c`, and `f` and `g`
-- agree at all other numbers, then `sum_below n f ≡ v + sum_below n g`.
sum_differs : (f g : ℕ → ℕ) (c v n : ℕ) → c < n → f c ≡ v + g c → ((j : ℕ) → j ≢ c → f j ≡ g j)
    → sum_below n f ≡ v + sum_below n g
sum_differs f g c v zero inside here others = absurd (omega arith)
sum_differs f g c v (suc n) inside here others = elim (cases_eq c n) [
  | inl same ↦ (let rest : sum_below n f ≡ sum_below n g = same_sum f g n
      (λ j less. others j (λ equal. omega (arith, less, equal, same))) in
      let last : f n ≡ v + g n = (λ i. f (sym same i)) ∙ (here ∙ (λ i. v + g (same i))) in
      omega (arith, rest, last))
  | inr other ↦ (let rest : sum_below n f ≡ v + sum_below n g =
      sum_differs f g c v n (omega (arith, inside, other)) here others in
      let last : f n ≡ g n = others n (λ equal. other (sym equal)) in
      omega (arith, rest, last))
]

no_sum : (f : ℕ → ℕ) (n : ℕ) → sum_below n (λ j. 0 * f j) ≡ 0
no_sum f zero = refl
no_sum f (suc n) = let rest = no_sum f n in omega arith

module _ (f : ℕ → ℕ) where
  -- `term entries j` is `x * f j`, where `x` is the number in column `j` of the row `entries`, or 0
  -- if there is none.
  abbrev term : List (ℕ × ℕ) → ℕ → ℕ
  term entries j = unwrap_or (find nat_cmp j entries) 0 * f j

  none_found : (x : ℕ) (entries : List (ℕ × ℕ)) → T (below_all nat_cmp x entries)
      → find nat_cmp x entries ≡ None
  none_found x [] below = refl
  none_found x (e ∷ entries) below =
      ap (λ b. cond b (Some e.1) (find nat_cmp x entries))
      (is_less (nat_cmp x e.0) (both_hold _ _ below).0)
      ∙ none_found x entries (both_hold _ _ below).1

  -- If the columns in `entries` are strictly increasing and less than `n`, then the sum of
  -- `x * f c` over all entries `(c, x)` is the sum of `term entries j` over all `j < n`.
  entries_sum : (entries : List (ℕ × ℕ)) (n : ℕ) → T (is_sorted nat_cmp entries)
      → ((k : ℕ) → k < length entries → (slice_index_or entries k (0, 0)).0 < n)
      → sum_by (λ e. e.1 * f e.0) entries ≡ sum_below n (term entries)
  entries_sum [] n sorted inside = sym (no_sum f n)
  entries_sum (e ∷ entries) n sorted inside =
      let later : (k : ℕ) → k < length entries → (slice_index_or entries k (0, 0)).0 < n =
      λ k less. inside (suc k) (omega (arith, less)) in
      let rest : sum_by (λ (x : ℕ × ℕ). x.1 * f x.0) entries ≡ sum_below n (term entries) =
      entries_sum entries n (both_hold _ _ sorted).1 later in
      sum_by-cons (λ (x : ℕ × ℕ). x.1 * f x.0) e entries
      ∙ (ap (λ s. e.1 * f e.0 + s) rest
      ∙ sym (sum_differs (term (e ∷ entries)) (term entries) e.0 (e.1 * f e.0) n
      (inside 0 (omega arith)) (first e entries (both_hold _ _ sorted).0)
      (λ j other. ap (λ b. unwrap_or (cond b (Some e.1) (find nat_cmp j entries)) 0 * f j)
      (apart j e.0 other))))
    where
      apart : (j c : ℕ) → j ≢ c → eq_by_cmp nat_cmp j c ≡ false
      apart j c other = grind (arith, nat_tests)

      first : (e : ℕ × ℕ) (entries : List (ℕ × ℕ)) → T (below_all nat_cmp e.0 entries)
          → term (e ∷ entries) e.0 ≡ e.1 * f e.0 + term entries e.0
      first e entries below =
          let none : find nat_cmp e.0 entries ≡ None = none_found e.0 entries below in
          ap (λ o. unwrap_or (cond (is_eq o) (Some e.1) (find nat_cmp e.0 entries)) 0 * f e.0)
          (tied_itself nat_cmp_total e.0)
          ∙ (let nothing : term entries e.0 ≡ 0 * f e.0 = ap (λ o. unwrap_or o 0 * f e.0) none in
          omega (arith, nothing))

-- If all entries of `row` are in columns less than `n`, then the sum of `x * f c` over its entries
-- `(c, x)` is the sum of `y * f j` over all `j < n`. Here, `y` is the number of `row` in column
-- `j`, or 0.
pub row_sum : (f : ℕ → ℕ) (row : Columns ℕ) (n : ℕ) (entries : List (ℕ × ℕ))
    → entries ≡ columns.entries row
    → ((k : ℕ) → k < length entries → (slice_index_or entries k (0, 0)).0 < n)
    → sum (map (λ e. e.1 * f e.0) entries)
    ≡ sum_below n (λ j. unwrap_or (columns.get row j) 0 * f j)
row_sum f row n entries is = rw is (λ inside.
    sum-map (λ (e : ℕ × ℕ). e.1 * f e.0) (columns.entries row)
    ∙ (entries_sum f (columns.entries row) n (entries_sorted row) inside
    ∙ same_sum _ _ n (λ j less. ap (λ o. unwrap_or o 0 * f j) (sym (get-entries row j)))))
