-- These lemmas are for the proofs of other crates. They say which capacities are small enough, and
-- which items a list contains after a write through a slice, an `insert` and a `remove`, two calls
-- of `swap_range`, or a `collect`, how many items calls that grow a list copy, and where the items
-- of an iterator are.
use Rattle.std.proofs.Common.{if◌then◌else◌, eqb, Bool, true, false, ◌≡◌, ℕ, zero, suc, ◌+◌, ◌-◌, ◌*◌, ◌^◌, ◌<◌, ◌≤◌, ap, arith, length, IfErr, Option, Result, Ok, Err, Some, None, inl, inr, refl, subst, sym, ◌∙◌, List, ◌++◌, append_assoc, length-append, drop, take, [], ◌∷◌, IfOk}
use Rattle.std.specs.Borrow.{RattleType}
use Rattle.std.specs.Align.{type_align}
use Rattle.std.specs.Mem.{type_size}
use Rattle.std.specs.Prelude.{◌==◌, IsPermutation, max, nat_lt, insert, remove, slice_get, slice_range, ⊤}
use Rattle.std.proofs.lemmas.Bool.{cases_lt}
use Rattle.std.proofs.lemmas.Bool.Decides.{nat_tests}
use Rattle.thin_block.specs.declared.errors.ThinVecError.{ThinVecError}
use Rattle.thin_block.specs.declared.errors.ThinVecError.TheVariants.{CapacityOverflow, OutOfMemory}
use Rattle.thin_block.specs.Capacity.{min_non_zero_cap, fits}
use Rattle.thin_block.specs.Cost.{Cost}
use Rattle.thin_block.specs.Growth.{GrowthRule, IsLawful, doubling, exact_capacity, checked_capacity, grown_capacity}
use Rattle.thin_block.proofs.CapacityLemmas.{exact-fits, exact-same, ruled-overflow, ruled-rule, ruled-same, small-fits}
use Rattle.thin_block.proofs.ResultLemmas.{some-same}
use Rattle.thin_vec.specs.List.Capacity.{CostsMoves, OverflowsIff, OverflowsIffTooLarge, PreservesList}
use Rattle.thin_vec.specs.ThinVec.{IsCauseOf, ListView, capacity_after_reserve}
use Rattle.thin_vec.proofs.GrowthLemmas.{cost_after_resize-copied}
use Rattle.std.proofs.Math.Seq.{take-append_seam}
use Rattle.std.specs.List.{refill, replace_range}
use Rattle.thin_vec.specs.Lends.{with_items}
use Rattle.std.proofs.lemmas.Iterator.{YieldsList}
use Rattle.std.proofs.lemmas.Iterator.Adapters.{fact_from_collect}
use Rattle.thin_vec.specs.List.Extend.{IsCollectedFrom}
use Rattle.std.proofs.lemmas.List.{append-nil, drop_at, length-take-le, take-append-drop, take_at}
use Rattle.std.proofs.lemmas.List.Folds.{drop_split}
use Rattle.std.proofs.lemmas.List.Sorted.{length_permutation}
use Rattle.std.specs.Iterator.{Count, Drains, DrainsIf, Yields, YieldsFirst}
use Rattle.std.specs.Option.{option_to_list}
use Rattle.thin_vec.specs.VecWords.{into_iter_items}
use Rattle.thin_vec.specs.Edits.Splice.{SpliceErrorAccountsFor}
use Rattle.thin_vec.specs.declared.errors.SpliceRefused.{SpliceRefused}
pub use Rattle.thin_block.specs.GrowthLaws.{doubling_law}

-- For fewer than 2^31 items, each of less than 2^31 bytes, the exact capacity is the number of the
-- items.
pub exact-few : (R : RattleType) (n : ℕ) → n < 2 ^ 31 → type_size R < 2 ^ 31
    → exact_capacity (type_size R) (type_align R) 0 n ≡ Some n
exact-few R zero few small = exact-same _ _ 0 0 (omega arith)
exact-few R (suc n) few small =
    exact-fits R 0 (suc n) (omega arith) (small-fits R (suc n) few small)

-- `named` is the capacity that a call needs, or `None` if this capacity is too large.
cause-named : (named : Option ℕ) (n : ℕ) (cause : ThinVecError) → named ≡ Some n
    → IsCauseOf named cause → cause ≡ OutOfMemory
cause-named named n OutOfMemory here told = refl
cause-named named n CapacityOverflow here told = let none = told refl in cc

-- A call that allocates room for fewer than 2^31 items, each of less than 2^31 bytes, fails only
-- with `OutOfMemory`.
pub few_items : {X : Type 0} (R : RattleType) (n : ℕ) (result : Result X ThinVecError)
    → n < 2 ^ 31 → type_size R < 2 ^ 31 → OverflowsIffTooLarge R n result
    → IfErr result (λ cause. cause ≡ OutOfMemory)
few_items R n (Ok made) few small told = tt
few_items R n (Err cause) few small told =
    cause-named (exact_capacity (type_size R) (type_align R) 0 n) n cause (exact-few R n few small)
    (λ over. told.overflow.0 (ap Err over))

either-few : (b : Bool) (m n : ℕ) → m < 2 ^ 31 → n < 2 ^ 31 → (if b then m else n) < 2 ^ 31
either-few true m n few less = few
either-few false m n few less = less

first-few : (s : ℕ) → min_non_zero_cap s < 2 ^ 31
unfolding min_non_zero_cap
first-few s = either-few (nat_lt (2 ^ 61 - 1) s) 1 4 (omega arith) (omega arith)

-- The rule `doubling` chooses a capacity for fewer than 2^30 items, each of less than 2^31 bytes.
pub doubling-few : (R : RattleType) (c w : ℕ) → w < 2 ^ 30 → type_size R < 2 ^ 31
    → (n : ℕ) × (grown_capacity doubling (type_size R) (type_align R) c w ≡ Some n)
unfolding doubling checked_capacity
doubling-few R c w few small = elim (cases_lt c w) [
  | inl more ↦ (let s : ℕ = type_size R in
      let twice : ℕ = if c == 0 then min_non_zero_cap s else 2 * c in
      let less : twice < 2 ^ 31 =
      either-few (c == 0) (min_non_zero_cap s) (2 * c) (first-few s) (omega arith) in
      let fit : fits s (type_align R) (max w (if c == 0 then min_non_zero_cap s else 2 * c))
      ≡ true =
      small-fits R (max w twice) (omega (arith, less)) small in
      (max w twice, ruled-rule doubling _ _ c w more (omega arith) ∙ rw fit refl))
  | inr enough ↦ (c, ruled-same doubling _ _ c w enough)
]

-- Under `doubling`, a call that needs room for `k` more items fails only with `OutOfMemory`, if
-- these and the items of the list are fewer than 2^30, each of less than 2^31 bytes.
pub few_more : {X T A : Type 0} (R : RattleType) (k : ℕ) (v : ListView T A)
    (result : Result X ThinVecError) → length v.items + k < 2 ^ 30 → type_size R < 2 ^ 31
    → OverflowsIff (capacity_after_reserve doubling R v k) result
    → IfErr result (λ cause. cause ≡ OutOfMemory)
few_more R k v (Ok made) few small told = tt
few_more R k v (Err cause) few small told =
    let named = doubling-few R v.capacity (length v.items + k) few small in
    cause-named (capacity_after_reserve doubling R v k) named.0 cause named.1
    (λ over. told.overflow.0 (ap Err over))

-- A successful call such as `push`, which needs room for `k` more items and makes `n` moves, copies
-- at most as many items as the capacity grows by. So the same holds of any number of calls, from
-- any list: their inequalities add up. Every growth rule has the law `IsLawful`: in an answer, it
-- is `g.met.G.Growth.law`. For lists with the rule `Doubling`, it is `doubling_law`.
pub grows-copied : {T A : Type 0} {rule : GrowthRule} → IsLawful rule → {R : RattleType} (k n : ℕ)
    {v w : ListView T A} → PreservesList R v w → capacity_after_reserve rule R v k ≡ Some w.capacity
    → CostsMoves n v w → w.cost.grown + v.capacity ≤ v.cost.grown + w.capacity
grows-copied {rule = rule} law {R} k n {v} {w} kept named cost =
    omega (
      arith,
      cost_after_resize-copied rule R law v k w.capacity kept.within.0.room named,
      ap (λ (c : Cost). c.grown) cost,
    )

named-by : (b : Bool) (m n : ℕ) → (if b then Some m else None) ≡ Some n → m ≡ n
named-by true m n e = some-same e
named-by false m n e = cc

either-most : (b : Bool) → (if b then 1 else 4) ≤ 4
either-most true = omega arith
either-most false = omega arith

first-most : (s : ℕ) → min_non_zero_cap s ≤ 4
unfolding min_non_zero_cap
first-most s = either-most (nat_lt (2 ^ 61 - 1) s)

twice-most : (b : Bool) (s c w : ℕ) → c < w
    → (if b then min_non_zero_cap s else 2 * c) ≤ max 4 (2 * w)
twice-most true s c w more = omega (arith, first-most s)
twice-most false s c w more = omega (arith, more)

-- If `doubling` chooses a capacity for `w` items, this is at most 4, or at most twice `w`.
pub doubling-most : (s a c w n : ℕ) → c < w → grown_capacity doubling s a c w ≡ Some n
    → n ≤ max 4 (2 * w)
unfolding doubling checked_capacity
doubling-most s a c w n more e = elim (cases_lt w (2 ^ 64)) [
  | inl word ↦ (let twice : ℕ = if c == 0 then min_non_zero_cap s else 2 * c in
      let named : max w twice ≡ n =
      named-by (fits s a (max w twice)) (max w twice) n
      (sym (ruled-rule doubling _ _ c w more word) ∙ e) in
      let few : twice ≤ max 4 (2 * w) = twice-most (c == 0) s c w more in
      omega (arith, named, few))
  | inr high ↦ cc (ruled-overflow doubling _ _ c w more high)
]

-- `doubling` chooses exactly twice the capacity if this is enough.
pub doubling-twice : (s a c w n : ℕ) → 0 < c → c < w → w ≤ 2 * c
    → grown_capacity doubling s a c w ≡ Some n → n ≡ 2 * c
unfolding doubling checked_capacity
doubling-twice s a c w n some more few e = elim (cases_lt w (2 ^ 64)) [
  | inl word ↦ (let twice : ℕ = if c == 0 then min_non_zero_cap s else 2 * c in
      let named : max w twice ≡ n =
      named-by (fits s a (max w twice)) (max w twice) n
      (sym (ruled-rule doubling _ _ c w more word) ∙ e) in
      let is : twice ≡ 2 * c = (let has : eqb c 0 ≡ false = grind (arith, nat_tests) in rw has refl)
      in
      omega (arith, named, is))
  | inr high ↦ cc (ruled-overflow doubling _ _ c w more high)
]

-- If a slice is filled with as many items as it has, it has exactly these.
pub refill_all : {T : Type 0} (xs ws : List T) → length ws ≡ length xs
    → refill (length xs) xs ws ≡ ws
refill_all xs ws same =
    ap (λ n. take n (ws ++ drop (length ws) xs)) (sym same) ∙ take-append_seam ws _

-- A permutation of the items, written through `as_mut_slice`, is one of the list.
pub refilled : {T : Type 0} (xs ws : List T) → IsPermutation xs ws
    → IsPermutation xs (refill (length xs) xs ws)
refilled xs ws same =
    subst (IsPermutation xs) (sym (refill_all xs ws (length_permutation xs ws same))) same

-- If as many items as a list has are written through a slice, the list has exactly these.
pub with_items_is : {T A : Type 0} (v : ListView T A) (ws : List T) → length ws ≡ length v.items
    → (with_items v ws).items ≡ ws
with_items_is v ws same = refill_all v.items ws same

module _ {T : Type 0} where
  -- A `remove` undoes an `insert` at the same index.
  pub remove-insert : (xs : List T) (i : ℕ) (x : T) → i ≤ length xs → remove (insert xs i x) i ≡ xs
  remove-insert [] zero x h = refl
  remove-insert (y ∷ xs) zero x h = refl
  remove-insert [] (suc i) x h = absurd (omega arith)
  remove-insert (y ∷ xs) (suc i) x h = ap (λ l. y ∷ l) (remove-insert xs i x (omega arith))

  -- After an `insert` at an index, the item at this index is the inserted one.
  pub slice_get-insert : (xs : List T) (i : ℕ) (x : T) → i ≤ length xs
      → slice_get (insert xs i x) i ≡ Some x
  slice_get-insert [] zero x h = refl
  slice_get-insert (y ∷ xs) zero x h = refl
  slice_get-insert [] (suc i) x h = absurd (omega arith)
  slice_get-insert (y ∷ xs) (suc i) x h = slice_get-insert xs i x (omega arith)

-- These rules show that an `insert` and a `remove` at one index leave the items as they were.
pub ruleset undone = (remove-insert, slice_get-insert)

-- In this module, the items `new` replace the items `i..j` of the list `xs`, as in a call of
-- `swap_range`. The law of undo is `replaced-undone`: if the old items then replace the new ones,
-- the result is `xs`.
module _ {T : Type 0} (xs new : List T) (i j : ℕ) (order : i ≤ j) (within : j ≤ length xs) where
  kept-before : length (take i xs) ≡ i
  kept-before = length-take-le i xs (omega (arith, order, within))

  past-new : length (take i xs ++ new) ≡ i + length new
  past-new = omega (arith, length-append (take i xs) new, kept-before)

  parted : replace_range xs i j new ≡ take i xs ++ (new ++ drop j xs)
  parted = append_assoc (take i xs) new (drop j xs)

  pub replaced-within : i + length new ≤ length (replace_range xs i j new)
  replaced-within = omega (arith, past-new, length-append (take i xs ++ new) (drop j xs))

  pub replaced-range : slice_range (replace_range xs i j new) i (i + length new) ≡ new
  replaced-range =
      let count : length new ≡ i + length new - i = omega arith in
      ap (λ (l : List T). take (i + length new - i) (drop i l)) parted
      ∙ (ap (take (i + length new - i)) (drop_at (take i xs) (new ++ drop j xs) i kept-before)
      ∙ take_at new (drop j xs) (i + length new - i) count)

  pub replaced-undone : replace_range (replace_range xs i j new) i (i + length new)
      (slice_range xs i j) ≡ xs
  replaced-undone =
      let before : take i (replace_range xs i j new) ≡ take i xs =
      ap (take i) parted ∙ take_at (take i xs) (new ++ drop j xs) i kept-before in
      let after : drop (i + length new) (replace_range xs i j new) ≡ drop j xs =
      drop_at (take i xs ++ new) (drop j xs) (i + length new) past-new in
      (λ k. (before k ++ slice_range xs i j) ++ after k)
      ∙ (append_assoc (take i xs) (slice_range xs i j) (drop j xs)
      ∙ (ap (λ (l : List T). take i xs ++ l) (sym (drop_split xs i j order))
      ∙ take-append-drop i xs))

module _ {T A E : Type 0} where
  ok-implies : {P Q : ListView T A → Type 0} (r : Result (ListView T A) E)
      → ((v : ListView T A) → P v → Q v)
      → IfOk r P → IfOk r Q
  ok-implies (Ok v) implies p = implies v p
  ok-implies (Err e) implies p = p

  -- This lemma is the counterpart of std's `items_from_collect` for a `ThinVec`.
  pub items_from_collect : {S : Type 0} {steps : S → Option T → S → Type 0} {s : S} {all : List T}
      (R : RattleType) (r : Result (ListView T A) E)
      → IfOk r (λ v. (xs : List T) × DrainsIf steps ⊤ s xs × IsCollectedFrom R xs v)
      → YieldsList steps (λ x. x) s all → IfOk r (λ v. v.items ≡ all)
  items_from_collect R r made yields =
      ok-implies r (λ v all_made. all_made.0) (fact_from_collect (IsCollectedFrom R) r made yields)

-- In this module, `items_of s` are the items that the iterator `s` still yields. A call of `next`
-- that returns an item takes the first of them, and one that returns `None` takes none.
module _ {S T : Type 0} (steps : S → Option T → S → Type 0) (items_of : S → List T)
    (gives : (s t : S) (x : T) → steps s (Some x) t → items_of s ≡ x ∷ items_of t) where
  -- If the iterator yielded `xs`, its items were `xs`, and then the items that it still yields.
  pub taken_front : (s t : S) (xs : List T) → Yields steps s xs t → items_of s ≡ xs ++ items_of t
  taken_front s t [] y = ap items_of y
  taken_front s t (x ∷ xs) y =
      gives s y.0 x y.1 ∙ ap (λ (ys : List T). x ∷ ys) (taken_front y.0 t xs y.2)

  -- After a failed `finish` of a `Splice`, each item of its iterator `s` is in the list (`placed`),
  -- in the error, or still to be yielded by `rest` of the error.
  pub accounts : ((s t : S) → steps s None t → items_of s ≡ items_of t) → {A : Type 0}
      {can : S → Type 0} {remaining : S → Count} (s : S) (placed : List T)
      (error : SpliceRefused T S A) → SpliceErrorAccountsFor steps can remaining s placed error
      → items_of s ≡ placed
      ++ (error.held.items ++ (option_to_list error.in_hand ++ items_of error.rest))
  accounts ends s placed error (inl gave) =
      let held = error.held.items in
      let one = option_to_list error.in_hand in
      let left = items_of error.rest in
      taken_front s error.rest ((placed ++ held) ++ one) gave.0.gave
      ∙ (append_assoc (placed ++ held) one left ∙ append_assoc placed held (one ++ left))
  accounts ends s placed error (inr ended) =
      let held = error.held.items in
      let left = items_of error.rest in
      taken_front s ended.2.0 (placed ++ held) ended.2.1
      ∙ (ap (λ (l : List T). (placed ++ held) ++ l) (ends ended.2.0 error.rest ended.2.2)
      ∙ (append_assoc placed held left
      ∙ ap (λ (o : Option T). placed ++ (held ++ (option_to_list o ++ left))) (sym ended.0)))

module _ {T A : Type 0} where
  -- If calls of `next` on the `IntoIter` `s` yielded the items `xs`, and then `None`, then these
  -- were all its items.
  pub all_taken : (s : ListView T A) (xs : List T) → Drains (YieldsFirst into_iter_items) s xs
      → xs ≡ s.items
  all_taken s xs d =
      sym (taken_front (YieldsFirst into_iter_items) into_iter_items (λ s t x e. e) s d.1.0 xs d.1.1
      ∙ (ap (λ (ys : List T). xs ++ ys) d.1.2.0 ∙ append-nil xs))
