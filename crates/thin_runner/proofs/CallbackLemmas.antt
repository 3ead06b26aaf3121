-- Methods such as `retain`, called with a closure that returns the decisions of a judge.
use Rattle.std.proofs.Common.{◌≡◌, ℕ, suc, ◌≤◌, ◌==◌, length, refl, arith, List, [], ◌∷◌, Bool, true, false, ap, subst, ◌∙◌}
use denote.MutBor.{MutBor}
use denote.Param.Members.{Mut}
use Rattle.std.specs.Fn.{CalledAtMut, ComparesKeys}
use Rattle.std.specs.List.{dedup, dedup_from}
use Rattle.std.specs.Prelude.{MatchBool, if◌then◌else◌, map, not}
use Rattle.thin_vec.proofs.RetainLemmas.{keeps-cons}
use Rattle.thin_vec.specs.Cost.{add_moves}
use Rattle.thin_vec.specs.Edits.Retain.{TestResults, KeepsInTurn, IsRetainedMut, flags_of, items_where, moves_of_retain}
use Rattle.thin_vec.specs.Edits.Dedup.{TestsEachAgainstLast, TestsAllAgainstLast, IsDedupedBy, dedup_flags, dedup_flags_from}
use Rattle.thin_vec.specs.ThinVec.{ListView}
use Rattle.thin_runner.specs.commands.Filters.{test_each, test_against_last, test_pairs, same_key, filtered_list}

module _ {S T J : Type 0} (R : S → T → Bool → S → T → Type 0) (judge_of : S → J)
    (ask : J → T → Bool × T × J) where
  -- Each call to the closure, described by `R`, has the effect of the method `ask` of the judge in
  -- its state.
  abbrev pub AsksJudge : Type 0
  AsksJudge = (s : S) (x : T) (b : Bool) (u : S) (y : T) → R s x b u y
      → (b, y, judge_of u) ≡ ask (judge_of s) x

module _ {S T J : Type 0} (R : S → T → Bool → S → T → Type 0) (judge_of : S → J)
    (ask : J → T → Bool × T × J) (told : AsksJudge R judge_of ask) where
  pub test_each-by : (s : S) (xs : List T) (flags : List Bool) (ys : List T)
      → KeepsInTurn R s xs flags ys → let results = test_each ask (judge_of s) xs
      in (flags ≡ flags_of results) × (ys ≡ items_where true results)
  test_each-by s [] flags ys a = a
  test_each-by s (x ∷ xs) flags ys a =
      subst (λ l. let c = (l.0, l.1) ∷ test_each ask l.2 xs
      in (flags ≡ flags_of c) × (ys ≡ items_where true c)) (told s x a.0 a.1 a.2 a.3)
      (keeps-cons a.2 _ a.7 a.8 (test_each-by a.1 xs a.4 a.5 a.6))

  pub retained-by : {A : Type 0} {s : S} {v w : ListView T A} → IsRetainedMut R s v w
      → w.capacity ≡ v.capacity → w.alloc ≡ v.alloc
      → w ≡ filtered_list v (test_each ask (judge_of s) v.items)
  retained-by {s = s} {v} {w} r capacity alloc =
      let by = test_each-by s v.items r.flags w.items r.calls in
      let cost = r.cost ∙ ap (λ f. add_moves (moves_of_retain f) v.cost) by.0 in
      λ i. record { items = by.1 i; capacity = capacity i; alloc = alloc i; cost = cost i }

module _ {T : Type 0} where
  -- `flags` says which later items are removed, and `ys` is the item of `b` followed by the others.
  abbrev pub Leaves : List Bool → List T → T × TestResults T → Type 0
  Leaves flags ys b = (map not flags ≡ flags_of b.1) × (ys ≡ b.0 ∷ items_where true b.1)

-- `R` describes a closure that compares two items by asking the judge in its state.
module _ {S T J : Type 0} (R : S → T → T → Bool → S → T → T → Type 0) (judge_of : S → J)
    (same : J → T → T → Bool × T × T × J)
    (told : (s : S) (x k : T) (b : Bool) (u : S) (x' k' : T) → R s x k b u x' k'
    → (b, x', k', judge_of u) ≡ same (judge_of s) x k) where
  pub test_against_last-by : (s t : S) (k : T) (xs : List T) (flags : List Bool) (ys : List T)
      → TestsEachAgainstLast R s k xs flags ys t
      → Leaves flags ys (test_against_last same (judge_of s) k xs)
  test_against_last-by s t k [] flags ys a = (ap (map not) a.0, a.1)
  test_against_last-by s t k (x ∷ xs) flags ys a =
      subst (λ p. let b = test_against_last same p.3 (if p.0 then p.2 else p.1) xs
      in Leaves flags ys (if p.0 then (b.0, (false, p.1) ∷ b.1) else (p.2, (true, b.0) ∷ b.1)))
      (told s x k a.0 a.3 a.1 a.2 a.5)
      (by_test (λ l zs m. test_against_last-by a.3 t l xs a.4 zs m) a.0 a.7 a.6)
    where
      by_test : ((l : T) (zs : List T) → TestsEachAgainstLast R a.3 l xs a.4 zs t
          → Leaves a.4 zs (test_against_last same (judge_of a.3) l xs))
          → (b : Bool) → MatchBool b (TestsEachAgainstLast R a.3 a.2 xs a.4 ys t)
          ((zs : List T) × TestsEachAgainstLast R a.3 a.1 xs a.4 zs t × (ys ≡ a.2 ∷ zs))
          → flags ≡ b ∷ a.4
          → (let c = test_against_last same (judge_of a.3) (if b then a.2 else a.1) xs
          in Leaves flags ys (if b then (c.0, (false, a.1) ∷ c.1) else (a.2, (true, c.0) ∷ c.1)))
      by_test by true m e = let h = by a.2 ys m in (ap (map not) e ∙ ap (λ l. false ∷ l) h.0, h.1)
      by_test by false m e = let h = by a.1 m.0 m.1 in
          (ap (map not) e ∙ ap (λ l. true ∷ l) h.0, m.2 ∙ ap (λ l. a.2 ∷ l) h.1)

  pub test_pairs-by : (s t : S) (xs : List T) (flags : List Bool) (ys : List T)
      → TestsAllAgainstLast R s xs flags ys t
      → let results = test_pairs same (judge_of s) xs in (moves_of_retain (map not flags)
      ≡ moves_of_retain (flags_of results)) × (ys ≡ items_where true results)
  test_pairs-by s t [] flags ys a = (ap (λ f. moves_of_retain (map not f)) a.0, a.1)
  test_pairs-by s t (x ∷ xs) flags ys a = let h = test_against_last-by s t x xs flags ys a
      in (ap moves_of_retain h.0, h.1)

  pub deduped-by : {A : Type 0} {s : S} {v w : ListView T A} → IsDedupedBy R s v w
      → w.capacity ≡ v.capacity → w.alloc ≡ v.alloc
      → w ≡ filtered_list v (test_pairs same (judge_of s) v.items)
  deduped-by {s = s} {v} {w} r capacity alloc =
      let by = test_pairs-by s r.last v.items r.removed w.items r.calls in
      let cost = r.cost ∙ ap (λ m. add_moves m v.cost) by.0 in
      λ i. record { items = by.1 i; capacity = capacity i; alloc = alloc i; cost = cost i }

-- `g` describes a closure that maps an item to the key of the judge in its state.
module _ {F T A J : Type 0} (g : Mut F (MutBor T × Unit {0}) (ℕ × (MutBor T × Unit {0})))
    (judge_of : F → J) (key : J → T → ℕ × T × J)
    (told : (f : F) (x : T) (k : ℕ) (f' : F) (x' : T) → CalledAtMut g f x k f' x'
    → (k, x', judge_of f') ≡ key (judge_of f) x) where
  pub deduped-by-keys : {f : F} {v w : ListView T A}
      → IsDedupedBy (ComparesKeys g (λ a b. a == b)) f v w → w.capacity ≡ v.capacity
      → w.alloc ≡ v.alloc → w ≡ filtered_list v (test_pairs (same_key key) (judge_of f) v.items)
  deduped-by-keys d capacity alloc =
      deduped-by (ComparesKeys g (λ a b. a == b)) judge_of (same_key key)
      (λ f x k b f' x' k' called.
      let first = told f x called.key called.between x' called.first in
      let second = told called.between k called.other f' k' called.second in
      ap (λ z. (z, x', k', judge_of f')) called.compared
      ∙ (ap (λ l. (called.key == l.0, x', l.1, l.2)) second
      ∙ ap (λ a. let l = key a.2 k in (a.0 == l.0, a.1, l.1, l.2)) first))
      d capacity alloc

module _ {T J : Type 0} (look : J → T → Bool × J) where
  -- `looks j x` is a call to `look`, as if it could write to the item.
  abbrev pub looks : J → T → Bool × T × J
  looks j x = let a = look j x in (a.0, x, a.1)

  pub looked : (j u : J) (x y : T) (b : Bool) → (b, u) ≡ look j x → y ≡ x → (b, y, u) ≡ looks j x
  looked j u x y b told same = ap (λ z. (b, z, u)) same ∙ ap (λ a. (a.0, x, a.1)) told

-- Commands such as `Retain` do not increase the number of items.
module _ {T : Type 0} where
  pub few-left : (results : TestResults T) → length (items_where true results) ≤ length results
  few-left [] = omega arith
  few-left ((true, x) ∷ results) = omega (arith, few-left results)
  few-left ((false, x) ∷ results) = omega (arith, few-left results)

  -- `next b x k a` adds the result for `x` to the pair `a`: `x` is removed if `b` holds.
  abbrev next : Bool → T → T → T × TestResults T → T × TestResults T
  next b x k a = if b then (a.0, (false, x) ∷ a.1) else (k, (true, a.0) ∷ a.1)

  one-answer : (b : Bool) (x k : T) (a : T × TestResults T)
      → length (next b x k a).1 ≡ suc (length a.1)
  one-answer true x k a = refl
  one-answer false x k a = refl

module _ {T J : Type 0} where
  pub test_each-length : (ask : J → T → Bool × T × J) (j : J) (xs : List T)
      → length (test_each ask j xs)
      ≡ length xs
  test_each-length ask j [] = refl
  test_each-length ask j (x ∷ xs) = ap suc (test_each-length ask (ask j x).2 xs)

  pub few-test_each : (ask : J → T → Bool × T × J) (j : J) (xs : List T)
      → length (items_where true (test_each ask j xs)) ≤ length xs
  few-test_each ask j xs = omega (arith, few-left (test_each ask j xs), test_each-length ask j xs)

  last-length : (same : J → T → T → Bool × T × T × J) (j : J) (k : T) (xs : List T)
      → length (test_against_last same j k xs).1 ≡ length xs
  last-length same j k [] = refl
  last-length same j k (x ∷ xs) =
      let a = same j x k in
      let l = if a.0 then a.2 else a.1 in
      one-answer a.0 a.1 a.2 (test_against_last same a.3 l xs) ∙ ap suc (last-length same a.3 l xs)

  pairs-length : (same : J → T → T → Bool × T × T × J) (j : J) (xs : List T)
      → length (test_pairs same j xs) ≡ length xs
  pairs-length same j [] = refl
  pairs-length same j (x ∷ xs) = ap suc (last-length same j x xs)

  pub few-pairs : (same : J → T → T → Bool × T × T × J) (j : J) (xs : List T)
      → length (items_where true (test_pairs same j xs)) ≤ length xs
  few-pairs same j xs = omega (arith, few-left (test_pairs same j xs), pairs-length same j xs)

-- `dedup` with the equality test `E` keeps the same items as `dedup_by` with a judge that asks `E`.
module _ {T J : Type 0} (E : T → T → Bool) (j : J) where
  -- Compares two items as `E` does, and changes nothing.
  abbrev pub tells : J → T → T → Bool × T × T × J
  tells j later kept = (E later kept, later, kept, j)

  dedup-last : (k : T) (xs : List T) → Leaves (dedup_flags_from E k xs) (dedup_from E k xs)
      (test_against_last tells j k xs)
  dedup-last k [] = (refl, refl)
  dedup-last k (x ∷ xs) = told (λ l. dedup-last l xs) (E x k)
    where
      told : ((l : T)
          → Leaves (dedup_flags_from E l xs) (dedup_from E l xs) (test_against_last tells j l xs))
          → (b : Bool)
          → (let a = test_against_last tells j (if b then k else x) xs in
          Leaves (if b then true ∷ dedup_flags_from E k xs else false ∷ dedup_flags_from E x xs)
          (if b then dedup_from E k xs else k ∷ dedup_from E x xs)
          (if b then (a.0, (false, x) ∷ a.1) else (k, (true, a.0) ∷ a.1)))
      told by true = let h = by k in (ap (λ l. false ∷ l) h.0, h.1)
      told by false = let h = by x in (ap (λ l. true ∷ l) h.0, ap (λ l. k ∷ l) h.1)

  pub dedup-pairs : (xs : List T)
      → let results = test_pairs tells j xs in (moves_of_retain (map not (dedup_flags E xs))
      ≡ moves_of_retain (flags_of results)) × (dedup E xs ≡ items_where true results)
  dedup-pairs [] = (refl, refl)
  dedup-pairs (x ∷ xs) = let h = dedup-last x xs in (ap moves_of_retain h.0, h.1)

  pub deduped-alike : {A : Type 0} (v w : ListView T A) → w.items ≡ dedup E v.items → w.cost
      ≡ add_moves (moves_of_retain (map not (dedup_flags E v.items))) v.cost
      → w.capacity ≡ v.capacity → w.alloc ≡ v.alloc
      → w ≡ filtered_list v (test_pairs tells j v.items)
  deduped-alike v w items cost capacity alloc =
      let by = dedup-pairs v.items in
      let left = items ∙ by.1 in
      let paid = cost ∙ ap (λ m. add_moves m v.cost) by.0 in
      λ i. record { items = left i; capacity = capacity i; alloc = alloc i; cost = paid i }
