-- A binary search for a column in the entries of a row, and the edits at the index that it
-- returns.
use Rattle.std.proofs.Common.{◌≡◌, ℕ, zero, suc, ◌+◌, ◌<◌, ◌≤◌, ◌≢◌, Bool, true, false, cond, not, ◌&&◌, T, List, [], ◌∷◌, length, map, get_or, set, Some, None, Result, Ok, Err, IfOk, IfErr, refl, sym, ap, ◌∙◌, nat_cmp, is_lt, is_eq, Less, Equal, Greater, insert, remove, arith}
use Rattle.std.specs.FinMap.{find, put}
use Rattle.std.specs.FinMap.Entries.{below_all, by_order, where_key}
use Rattle.std.specs.Ordering.{eq_by_cmp, ordering_index}
use Rattle.std.specs.List.Sorted.{IsBinarySearchResult, IsNonDecreasingBy, IsSearchInRange, IsStrictlyIncreasing}
use Rattle.std.proofs.lemmas.Bool.Decides.{nat_tests}
use Rattle.std.specs.Cmp.{ranked}
use Rattle.std.proofs.lemmas.List.{get_or-map}
use lib.ListN.{length-map}
use Rattle.thin_rows.specs.Entries.{IsInsertionPoint, IsFoundAt, IsSortedByColumn}

pub both_hold : (a b : Bool) → T (a && b) → T a × T b
both_hold true b h = (tt, h)
both_hold false b h = absurd h

pub hold_both : (a b : Bool) → T a → T b → T (a && b)
hold_both true b first second = second
hold_both false b first second = first

is_less : (c k : ℕ) → c < k → nat_cmp c k ≡ Less
is_less c k less = grind (arith, nat_tests)

is_same : (c k : ℕ) → c ≡ k → nat_cmp c k ≡ Equal
is_same c k same = grind (arith, nat_tests)

is_more : (c k : ℕ) → k < c → nat_cmp c k ≡ Greater
is_more c k more = grind (arith, nat_tests)

less_from : (c k : ℕ) → T (is_lt (nat_cmp c k)) → c < k
less_from c k h = grind (arith, nat_tests)

-- Whether an entry of column `k` is kept when the entry of column `c` is removed.
abbrev pub stays : ℕ → ℕ → Bool
stays c k = not (eq_by_cmp nat_cmp c k)

other_stays : (c k : ℕ) → k ≢ c → stays c k ≡ true
other_stays c k other = grind (arith, nat_tests)

module _ {V : Type 0} where
  abbrev column_at : List (ℕ × V) → ℕ → ℕ × V → ℕ
  column_at entries k d = (get_or entries k d).0

  all_above : (c : ℕ) (entries : List (ℕ × V)) → T (below_all nat_cmp c entries)
      → (k : ℕ) (d : ℕ × V) → k < length entries → c < column_at entries k d
  all_above c [] h k d inside = absurd (omega arith)
  all_above c (e ∷ entries) h zero d inside = less_from c e.0 (both_hold _ _ h).0
  all_above c (e ∷ entries) h (suc k) d inside =
      all_above c entries (both_hold _ _ h).1 k d (omega arith)

  pub columns_rise : (entries : List (ℕ × V)) → IsSortedByColumn entries → (i k : ℕ) (d : ℕ × V)
      → i < k
      → k < length entries → column_at entries i d < column_at entries k d
  columns_rise [] h i k d before inside = absurd (omega arith)
  columns_rise (e ∷ entries) h zero zero d before inside = absurd (omega arith)
  columns_rise (e ∷ entries) h zero (suc k) d before inside =
      all_above e.0 entries (both_hold _ _ h).0 k d (omega arith)
  columns_rise (e ∷ entries) h (suc i) zero d before inside = absurd (omega arith)
  columns_rise (e ∷ entries) h (suc i) (suc k) d before inside =
      columns_rise entries (both_hold _ _ h).1 i k d (omega arith) (omega arith)

  pub columns_increase : (entries : List (ℕ × V)) → IsSortedByColumn entries
      → IsStrictlyIncreasing (map (λ entry. entry.0) entries)
  columns_increase (e ∷ entries) h k inside =
      let count : length (map (λ (x : ℕ × V). x.0) (e ∷ entries)) ≡ length (e ∷ entries) =
      length-map (e ∷ entries) (λ x. x.0) in
      let within : k + 1 < length (e ∷ entries) = omega (arith, count) in
      let here = get_or-map (λ (x : ℕ × V). x.0) (e ∷ entries) k e 0 (omega (arith, within)) in
      let next = get_or-map (λ (x : ℕ × V). x.0) (e ∷ entries) (k + 1) e 0 within in
      omega (arith, here, next, columns_rise (e ∷ entries) h k (k + 1) e (omega arith) within)
  columns_increase [] h k inside = absurd (omega arith)

  module _ (c : ℕ) where
    place_after : (e : ℕ × V) (entries : List (ℕ × V)) (at : ℕ)
        → IsFoundAt (e ∷ entries) c (suc at) → IsFoundAt entries c at
    place_after e entries at p = record { in_bounds = omega (arith, p.in_bounds); same = p.same }

    gap_after : (e : ℕ × V) (entries : List (ℕ × V)) (at : ℕ)
        → IsInsertionPoint (e ∷ entries) c (suc at)
        → IsInsertionPoint entries c at
    gap_after e entries at g = record {
      in_bounds = omega (arith, g.in_bounds);
      smaller = λ k d before. g.smaller (suc k) d (omega arith);
      greater = λ k d from inside. g.greater (suc k) d (omega arith) (omega arith);
    }

    before_place : (e : ℕ × V) (entries : List (ℕ × V)) (at : ℕ) → IsSortedByColumn (e ∷ entries)
        → IsFoundAt (e ∷ entries) c (suc at) → e.0 < c
    before_place e entries at h p =
        omega (arith, columns_rise (e ∷ entries) h 0 (suc at) e (omega arith) p.in_bounds, p.same e)

    pub find_at : (entries : List (ℕ × V)) (at : ℕ) (d : ℕ × V) → IsSortedByColumn entries
        → IsFoundAt entries c at → find nat_cmp c entries ≡ Some (get_or entries at d).1
    find_at [] at d h p = absurd (omega (arith, p.in_bounds))
    find_at (e ∷ entries) zero d h p = ap (λ o. cond (is_eq o) (Some e.1) (find nat_cmp c entries))
        (is_same c e.0 (sym (p.same d)))
    find_at (e ∷ entries) (suc at) d h p = ap
        (λ o. cond (is_eq o) (Some e.1) (find nat_cmp c entries))
        (is_more c e.0 (before_place e entries at h p))
        ∙ find_at entries at d (both_hold _ _ h).1 (place_after e entries at p)

    pub put_at : (entries : List (ℕ × V)) (at : ℕ) (v : V) → IsSortedByColumn entries
        → IsFoundAt entries c at → put nat_cmp c v entries ≡ set entries at (c, v)
    put_at [] at v h p = absurd (omega (arith, p.in_bounds))
    put_at (e ∷ entries) zero v h p =
        ap (λ o. by_order o ((c, v) ∷ e ∷ entries) ((e.0, v) ∷ entries)
        (e ∷ put nat_cmp c v entries)) (is_same c e.0 (sym (p.same e)))
        ∙ ap (λ k. (k, v) ∷ entries) (p.same e)
    put_at (e ∷ entries) (suc at) v h p =
        ap (λ o. by_order o ((c, v) ∷ e ∷ entries) ((e.0, v) ∷ entries)
        (e ∷ put nat_cmp c v entries)) (is_more c e.0 (before_place e entries at h p))
        ∙ ap (λ rest. e ∷ rest) (put_at entries at v (both_hold _ _ h).1
        (place_after e entries at p))

    all_stay : (entries : List (ℕ × V)) → ((k : ℕ) (d : ℕ × V) → k < length entries
        → column_at entries k d ≢ c) → where_key nat_cmp (stays c) entries ≡ entries
    all_stay [] others = refl
    all_stay (e ∷ entries) others =
        ap (λ b. cond b (e ∷ where_key nat_cmp (stays c) entries)
        (where_key nat_cmp (stays c) entries)) (other_stays c e.0 (others 0 e (omega arith)))
        ∙ ap (λ rest. e ∷ rest) (all_stay entries (λ k d inside. others (suc k) d (omega arith)))

    pub without_at : (entries : List (ℕ × V)) (at : ℕ) → IsSortedByColumn entries
        → IsFoundAt entries c at
        → where_key nat_cmp (stays c) entries ≡ remove entries at
    without_at [] at h p = absurd (omega (arith, p.in_bounds))
    without_at (e ∷ entries) zero h p =
        ap (λ o. cond (not (is_eq o)) (e ∷ where_key nat_cmp (stays c) entries)
        (where_key nat_cmp (stays c) entries)) (is_same c e.0 (sym (p.same e)))
        ∙ all_stay entries (λ k d inside same. omega
        (arith, columns_rise (e ∷ entries) h 0 (suc k) d (omega arith) (omega arith), p.same d))
    without_at (e ∷ entries) (suc at) h p = ap
        (λ o. cond (not (is_eq o)) (e ∷ where_key nat_cmp (stays c) entries)
        (where_key nat_cmp (stays c) entries)) (is_more c e.0 (before_place e entries at h p))
        ∙ ap (λ rest. e ∷ rest) (without_at entries at (both_hold _ _ h).1
        (place_after e entries at p))

    pub find_gap : (entries : List (ℕ × V)) (at : ℕ) → IsInsertionPoint entries c at
        → find nat_cmp c entries ≡ None
    find_gap [] at g = refl
    find_gap (e ∷ entries) zero g = ap (λ o. cond (is_eq o) (Some e.1) (find nat_cmp c entries))
        (is_less c e.0 (g.greater 0 e (omega arith) (omega arith)))
        ∙ find_gap entries zero (record {
          in_bounds = omega arith;
          smaller = λ k d before. absurd (omega arith);
          greater = λ k d from inside. g.greater (suc k) d (omega arith) (omega arith);
        })
    find_gap (e ∷ entries) (suc at) g =
        ap (λ o. cond (is_eq o) (Some e.1) (find nat_cmp c entries))
        (is_more c e.0 (g.smaller 0 e (omega arith)))
        ∙ find_gap entries at (gap_after e entries at g)

    pub without_gap : (entries : List (ℕ × V)) (at : ℕ) → IsInsertionPoint entries c at
        → where_key nat_cmp (stays c) entries ≡ entries
    without_gap entries at g = all_stay entries
        (λ k d inside same. grind (arith, g.smaller k d, g.greater k d))

    pub put_gap : (entries : List (ℕ × V)) (at : ℕ) (v : V) → IsInsertionPoint entries c at
        → put nat_cmp c v entries ≡ insert entries at (c, v)
    put_gap [] zero v g = refl
    put_gap [] (suc at) v g = absurd (omega (arith, g.in_bounds))
    put_gap (e ∷ entries) zero v g =
        ap (λ o. by_order o ((c, v) ∷ e ∷ entries) ((e.0, v) ∷ entries)
        (e ∷ put nat_cmp c v entries)) (is_less c e.0 (g.greater 0 e (omega arith) (omega arith)))
    put_gap (e ∷ entries) (suc at) v g =
        ap (λ o. by_order o ((c, v) ∷ e ∷ entries) ((e.0, v) ∷ entries)
        (e ∷ put nat_cmp c v entries)) (is_more c e.0 (g.smaller 0 e (omega arith)))
        ∙ ap (λ rest. e ∷ rest) (put_gap entries at v (gap_after e entries at g))

    comparisons_rise : (entries : List (ℕ × V)) → IsSortedByColumn entries
        → IsNonDecreasingBy (λ e. ordering_index (nat_cmp e.0 c)) entries
    comparisons_rise entries h i k d before inside =
        let rise : column_at entries i d ≤ column_at entries k d =
        grind (
          arith,
          columns_rise entries h i k d,
          λ (same : i ≡ k). ap (λ j. column_at entries j d) same,
        ) in
        grind (arith, nat_tests)

    -- What the binary search returns is what `search` promises.
    pub searched : (entries : List (ℕ × V)) → IsSortedByColumn entries → (r : Result ℕ ℕ)
        → IsSearchInRange r (length entries)
        → IsBinarySearchResult (λ e. nat_cmp e.0 c) entries r
        → IfOk r (IsFoundAt entries c) × IfErr r (IsInsertionPoint entries c)
    searched entries h (Ok at) inside equal =
        (record { in_bounds = inside; same = λ d. ranked _ c _ (sym (equal d)) }, tt)
    searched entries h (Err at) inside parted = (
      tt,
      record {
        in_bounds = inside;
        smaller = λ k d before. ranked _ c _ (sym
            ((parted (comparisons_rise entries h)).0 k d (omega arith) before));
        greater = λ k d from within. ranked _ c _
            (sym ((parted (comparisons_rise entries h)).1 k d from within));
      },
    )
