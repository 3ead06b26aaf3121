-- These lemmas are about `swap_range`, which first exchanges as many items as both lists have, pair
-- by pair, and then moves what is left of the longer run. In all of them, `v` becomes `w`, or `x`
-- becomes `y`.
use Rattle.std.proofs.Common.{◌≡◌, ℕ, ◌+◌, ◌-◌, ◌≤◌, Bool, true, false, eqb, if◌then◌else◌, inl, inr, List, [], ◌++◌, Option, Some, Result, Ok, length, take, drop, slice_range, refl, sym, ap, ◌∙◌, arith, length-append, append_assoc}
use Rattle.std.proofs.Math.Seq.{take-append-add}
use Rattle.std.proofs.lemmas.Bool.{cases_lt}
use Rattle.std.proofs.lemmas.Bool.Decides.{nat_tests}
use Rattle.std.proofs.lemmas.List.{append-nil, drop-drop, drop_all, drop_at, length-drop, length-take-le, take-append-drop, take_all, take_at}
use Rattle.std.proofs.lemmas.List.Folds.{drop_split}
use Rattle.std.specs.List.{remove_range, replace_range}
use Rattle.thin_block.specs.Cost.{Cost, add_moves, no_cost}
use Rattle.thin_block.specs.declared.errors.ThinVecError.{ThinVecError}
use Rattle.thin_block.specs.declared.errors.ThinVecError.TheVariants.{CapacityOverflow}
use Rattle.thin_block.proofs.ResultLemmas.{none-some, ok-err}
use Rattle.thin_vec.specs.Edits.SwapRange.{OverflowsIffEither}
use Rattle.thin_vec.specs.List.Capacity.{CostsMoves, OverflowsIff}
use Rattle.thin_vec.specs.OpenView.{OpenView, cost_closed, items_of}
use Rattle.thin_vec.specs.ThinVec.{ListView, cost_after_resize}
use Rattle.thin_vec.proofs.RetainLemmas.{moving-more, moving-none, moving-zero}

-- In this module, the `k` items of `xs` from index `i` onward are exchanged with the first `k`
-- items of `ys`.
module _ {T : Type 0} (xs ys : List T) (i k : ℕ) (within : i + k ≤ length xs)
    (few : k ≤ length ys) where
  before-run : length (take i xs) ≡ i
  before-run = length-take-le i xs (omega (arith, within))

  length-run : length (slice_range xs i (i + k)) ≡ k
  length-run =
      let count : i + k - i ≡ k = omega arith in
      length-take-le (i + k - i) (drop i xs) (omega (arith, length-drop i xs, within)) ∙ count

  length-head : length (take i xs ++ take k ys) ≡ i + k
  length-head =
      omega (
        arith,
        length-append (take i xs) (take k ys),
        before-run,
        length-take-le k ys few,
      )

  pub length-in : length (replace_range xs i (i + k) (take k ys)) ≡ length xs
  length-in =
      omega (
        arith,
        length-append (take i xs ++ take k ys) (drop (i + k) xs),
        length-head,
        length-drop (i + k) xs,
        within,
      )

  pub length-out : length (slice_range xs i (i + k) ++ drop k ys) ≡ length ys
  length-out =
      omega (
        arith,
        length-append (slice_range xs i (i + k)) (drop k ys),
        length-run,
        length-drop k ys,
        few,
      )

-- In this module, the `m` items of `ys` are exchanged with the range `i..j`. The lists become `xs₁`
-- and `ys₁` when the first `k` items have been exchanged pair by pair, and `xs₂` and `ys₂` when the
-- other `n` items of `ys` have moved into the first list. What is left of the range moves last.
module _ {T : Type 0} (xs ys xs₁ ys₁ xs₂ ys₂ : List T) (i j k m n : ℕ) (order : i ≤ j)
    (within : j ≤ length xs) (count : m ≡ length ys) (narrow : k ≤ j - i) (parts : k + n ≡ m)
    (come : xs₁ ≡ replace_range xs i (i + k) (take k ys))
    (go : ys₁ ≡ slice_range xs i (i + k) ++ drop k ys)
    (grown : xs₂ ≡ replace_range xs₁ (i + k) (i + k) (slice_range ys₁ k m))
    (left : ys₂ ≡ remove_range ys₁ k m) where
  run-within : i + k ≤ length xs
  run-within = omega (arith, order, within, narrow)

  few : k ≤ length ys
  few = omega (arith, parts, count)

  abbrev run : List T
  run = slice_range xs i (i + k)

  abbrev head : List T
  head = take i xs ++ take k ys

  abbrev new : List T
  new = take i xs ++ ys

  run-size : length run ≡ k
  run-size = length-run xs ys i k run-within few

  head-size : length head ≡ i + k
  head-size = length-head xs ys i k run-within few

  new-size : length new ≡ i + m
  new-size =
      omega (arith, length-append (take i xs) ys, before-run xs ys i k run-within few, count)

  rest : slice_range ys₁ k m ≡ drop k ys
  rest =
      (λ t. slice_range (go t) k (count t))
      ∙ (ap (take (length ys - k)) (drop_at run (drop k ys) k run-size)
      ∙ take_all (length ys - k) (drop k ys) (omega (arith, length-drop k ys)))

  now : xs₂ ≡ new ++ drop (i + k) xs
  now =
      let before : take (i + k) xs₁ ≡ head =
      ap (take (i + k)) come ∙ take_at head (drop (i + k) xs) (i + k) head-size in
      let after : drop (i + k) xs₁ ≡ drop (i + k) xs =
      ap (drop (i + k)) come ∙ drop_at head (drop (i + k) xs) (i + k) head-size in
      let whole : head ++ drop k ys ≡ new =
      append_assoc (take i xs) (take k ys) (drop k ys)
      ∙ ap (λ (l : List T). take i xs ++ l) (take-append-drop k ys) in
      grown
      ∙ ((λ t. (before t ++ rest t) ++ after t)
      ∙ ap (λ (l : List T). l ++ drop (i + k) xs) whole)

  gone : ys₂ ≡ run
  gone =
      let before : take k ys₁ ≡ run = ap (take k) go ∙ take_at run (drop k ys) k run-size in
      let all : length ys₁ ≤ m =
      omega (arith, ap length go, length-out xs ys i k run-within few, count) in
      left ∙ ((λ t. before t ++ drop_all m ys₁ all t) ∙ append-nil run)

  pub size-in : length xs₂ ≡ length xs + n
  size-in =
      omega (
        arith,
        ap length now,
        length-append new (drop (i + k) xs),
        new-size,
        length-drop (i + k) xs,
        run-within,
        parts,
      )

  pub size-out : length ys₂ ≡ k
  size-out = ap length gone ∙ run-size

  past-new : drop (i + m) xs₂ ≡ drop (i + k) xs
  past-new = ap (drop (i + m)) now ∙ drop_at new (drop (i + k) xs) (i + m) new-size

  pub swapped-in : (zs : List T) → zs ≡ remove_range xs₂ (i + m) (j + n)
      → zs ≡ replace_range xs i j ys
  swapped-in zs moved =
      let before : take (i + m) xs₂ ≡ new =
      ap (take (i + m)) now ∙ take_at new (drop (i + k) xs) (i + m) new-size in
      let o : ℕ = j - (i + k) in
      let later : i + m + o ≡ j + n = omega (arith, order, narrow, parts) in
      let sooner : i + k + o ≡ j = omega (arith, order, narrow) in
      let after : drop (j + n) xs₂ ≡ drop j xs =
      sym (drop-drop o (i + m) xs₂ ∙ ap (λ (q : ℕ). drop q xs₂) later)
      ∙ (ap (drop o) past-new ∙ (drop-drop o (i + k) xs ∙ ap (λ (q : ℕ). drop q xs) sooner)) in
      moved ∙ (λ t. before t ++ after t)

  pub swapped-out : (zs : List T)
      → zs ≡ replace_range ys₂ k k (slice_range xs₂ (i + m) (j + n)) → zs ≡ slice_range xs i j
  swapped-out zs moved =
      let first : take k ys₂ ≡ run = ap (take k) gone ∙ take_all k run (omega (arith, run-size)) in
      let last : drop k ys₂ ≡ [] = ap (drop k) gone ∙ drop_all k run (omega (arith, run-size)) in
      let width : j + n - (i + m) ≡ j - (i + k) = omega (arith, parts) in
      let more : slice_range xs₂ (i + m) (j + n) ≡ slice_range xs (i + k) j =
      λ t. take (width t) (past-new t) in
      let sum : j - i ≡ length run + (j - (i + k)) = omega (arith, order, narrow, run-size) in
      let joined : run ++ slice_range xs (i + k) j ≡ slice_range xs i j =
      sym (ap (take (j - i)) (drop_split xs i (i + k) (omega arith))
      ∙ (ap (λ (q : ℕ). take q (run ++ drop (i + k) xs)) sum
      ∙ take-append-add run (drop (i + k) xs) (j - (i + k)))) in
      moved
      ∙ ((λ t. (first t ++ more t) ++ last t)
      ∙ (append-nil (run ++ slice_range xs (i + k) j) ∙ joined))

-- The following lemmas are about the cost of the list that takes part in the exchange, `u` after
-- `reserve`, `s` after the exchange of the pairs, and `t` after the rest of `ys` has moved.

-- At most one of the two calls that move the rest counts moves.
moves-join : (i j k m n l : ℕ) → i ≤ j → n ≡ m - (j - i) → k ≡ m - n
    → m - k + (if eqb k m then 0 else l - (i + k))
    + (if eqb (i + m) (j + n) then 0 else l + n - (j + n))
    ≡ m - (j - i) + (if eqb (j - i) m then 0 else l - j)
moves-join i j k m n l order more pairs = elim (cases_lt m (j - i)) [
  | inl shorter ↦ (let one : eqb k m ≡ true = grind (arith, nat_tests) in
      let two : eqb (i + m) (j + n) ≡ false = grind (arith, nat_tests) in
      let three : eqb (j - i) m ≡ false = grind (arith, nat_tests) in
      omega (
        arith,
        ap (λ (b : Bool). if b then 0 else l - (i + k)) one,
        ap (λ (b : Bool). if b then 0 else l + n - (j + n)) two,
        ap (λ (b : Bool). if b then 0 else l - j) three,
        more,
        pairs,
      ))
  | inr most ↦ elim (cases_lt (j - i) m) [
    | inl longer ↦ (let one : eqb k m ≡ false = grind (arith, nat_tests) in
        let two : eqb (i + m) (j + n) ≡ true = grind (arith, nat_tests) in
        let three : eqb (j - i) m ≡ false = grind (arith, nat_tests) in
        omega (
          arith,
          ap (λ (b : Bool). if b then 0 else l - (i + k)) one,
          ap (λ (b : Bool). if b then 0 else l + n - (j + n)) two,
          ap (λ (b : Bool). if b then 0 else l - j) three,
          more,
          pairs,
          order,
        ))
    | inr least ↦ (let one : eqb k m ≡ true = grind (arith, nat_tests) in
        let two : eqb (i + m) (j + n) ≡ true = grind (arith, nat_tests) in
        let three : eqb (j - i) m ≡ true = grind (arith, nat_tests) in
        omega (
          arith,
          ap (λ (b : Bool). if b then 0 else l - (i + k)) one,
          ap (λ (b : Bool). if b then 0 else l + n - (j + n)) two,
          ap (λ (b : Bool). if b then 0 else l - j) three,
          more,
          pairs,
        ))
  ]
]

nothing : (b : Bool) (n : ℕ) → n ≡ 0 → (if b then 0 else n) ≡ 0
nothing true n none = refl
nothing false n none = none

moved-if : (b : Bool) (n : ℕ) (c : Cost) → (if b then c else add_moves n c)
    ≡ add_moves (if b then 0 else n) c
moved-if true n c = sym (moving-none c)
moved-if false n c = refl

pub paid-if : (b : Bool) (n : ℕ) (c : Cost)
    → ((if b then c else add_moves n c).blocks ≡ c.blocks)
    × ((if b then c else add_moves n c).grown ≡ c.grown)
paid-if true n c = (refl, refl)
paid-if false n c = (refl, refl)

module _ {T A : Type 0} (v u s t w : ListView T A) (i j k m n : ℕ) (order : i ≤ j)
    (paid : u.cost ≡ cost_after_resize v u.capacity) (kept : s.cost ≡ u.cost)
    (same : w.capacity ≡ u.capacity) where
  all : s.cost ≡ cost_after_resize v w.capacity
  all = kept ∙ (paid ∙ ap (λ (c : ℕ). cost_after_resize v c) (sym same))

  pub cost-in : length s.items ≡ length v.items → length t.items ≡ length v.items + n
      → n ≡ m - (j - i) → k ≡ m - n
      → t.cost ≡ add_moves (m - k + (if eqb k m then 0 else length s.items - (i + k))) s.cost
      → w.cost ≡ (if eqb (i + m) (j + n) then t.cost else add_moves
      (length t.items - (j + n)) t.cost)
      → CostsMoves (m - (j - i) + (if eqb (j - i) m then 0 else length v.items - j)) v w
  cost-in len grown more pairs first last =
      let a : ℕ = m - k + (if eqb k m then 0 else length v.items - (i + k)) in
      let b : ℕ = if eqb (i + m) (j + n) then 0 else length v.items + n - (j + n) in
      let before : t.cost ≡ add_moves a s.cost =
      first ∙ (λ q. add_moves (m - k + (if eqb k m then 0 else len q - (i + k))) s.cost) in
      let after : w.cost ≡ add_moves b t.cost =
      last
      ∙ (moved-if (eqb (i + m) (j + n)) (length t.items - (j + n)) t.cost
      ∙ (λ q. add_moves (if eqb (i + m) (j + n) then 0 else grown q - (j + n)) t.cost)) in
      after
      ∙ (ap (λ (c : Cost). add_moves b c) before
      ∙ (moving-more b a s.cost
      ∙ (λ q. add_moves (moves-join i j k m n (length v.items) order more pairs q) (all q))))

  pub cost-out : length s.items ≡ m → length t.items ≡ k → k + n ≡ m
      → t.cost ≡ (if eqb k m then s.cost else add_moves (length s.items - m) s.cost)
      → w.cost ≡ add_moves (j + n - (i + m)
      + (if eqb (i + m) (j + n) then 0 else length t.items - k)) t.cost
      → n ≡ m - (j - i) → CostsMoves (j - i - m) v w
  cost-out len left parts first last more =
      let none : length s.items - m ≡ 0 = omega (arith, len) in
      let before : t.cost ≡ s.cost =
      first
      ∙ (ap (λ (q : ℕ). if eqb k m then s.cost else add_moves q s.cost) none
      ∙ moving-zero (eqb k m) s.cost) in
      let zero : (if eqb (i + m) (j + n) then 0 else length t.items - k) ≡ 0 =
      nothing (eqb (i + m) (j + n)) (length t.items - k) (omega (arith, left)) in
      let moves : j + n - (i + m) + (if eqb (i + m) (j + n) then 0 else length t.items - k)
      ≡ j - i - m =
      omega (arith, zero, more, order) in
      last ∙ (λ q. add_moves (moves q) ((before ∙ all) q))

-- The call fails for the one list that has to grow. The other one needs no capacity that is too
-- large.

pub either-ok : {X : Type 0} (x : X) (a b : Option ℕ) (m n : ℕ) → a ≡ Some m → b ≡ Some n
    → OverflowsIffEither a b (Ok x)
either-ok x a b m n one two = record {
  overflow = (
    λ over. ok-err x CapacityOverflow over,
    λ none. elim none [
      | inl first ↦ absurd (none-some first one)
      | inr second ↦ absurd (none-some second two)
    ],
  );
}

pub either-first : {X : Type 0} (r : Result X ThinVecError) (a b : Option ℕ) (n : ℕ)
    → OverflowsIff a r → b ≡ Some n → OverflowsIffEither a b r
either-first r a b n told two = record {
  overflow = (
    λ over. inl (told.overflow.0 over),
    λ none. elim none [
      | inl first ↦ told.overflow.1 first
      | inr second ↦ absurd (none-some second two)
    ],
  );
}

pub either-second : {X : Type 0} (r : Result X ThinVecError) (a b : Option ℕ) (n : ℕ)
    → OverflowsIff b r → a ≡ Some n → OverflowsIffEither a b r
either-second r a b n told one = record {
  overflow = (
    λ over. inr (told.overflow.0 over),
    λ none. elim none [
      | inl first ↦ absurd (none-some first one)
      | inr second ↦ told.overflow.1 second
    ],
  );
}

-- The following lemmas are about `move_range_to`. Taking the middle run out of an open block, and
-- closing it, removes a range (`closed-out`). Filling a gap inserts the run `ms` (`closed-in`).

same-width : (i j : ℕ) → i ≤ j → eqb (j - i) 0 ≡ eqb i j
same-width i j order = elim (cases_lt i j) [
  | inl less ↦ (let one : eqb (j - i) 0 ≡ false = grind (arith, nat_tests) in
      let two : eqb i j ≡ false = grind (arith, nat_tests) in
      one ∙ sym two)
  | inr most ↦ (let one : eqb (j - i) 0 ≡ true = grind (arith, nat_tests) in
      let two : eqb i j ≡ true = grind (arith, nat_tests) in
      one ∙ sym two)
]

pub empty-range : {T : Type 0} (xs : List T) (n : ℕ) → slice_range xs n n ≡ []
empty-range {T} xs n =
    let zero : n - n ≡ 0 = omega arith in
    ap (λ (k : ℕ). take k (drop n xs)) zero

pub length-range : {T : Type 0} (xs : List T) (i j : ℕ) → i ≤ j → j ≤ length xs
    → length (slice_range xs i j) ≡ j - i
length-range xs i j order within =
    length-take-le (j - i) (drop i xs) (omega (arith, length-drop i xs, order, within))

module _ {T A : Type 0} (v u w : ListView T A) (o m : OpenView T A) (i j : ℕ) (order : i ≤ j)
    (within : j ≤ length v.items) (front : o.front ≡ take i v.items)
    (middle : o.middle ≡ slice_range v.items i j) (tail : o.tail ≡ drop j v.items)
    (before : o.gap_before ≡ 0) (after : o.gap_after ≡ 0) (capacity : o.capacity ≡ v.capacity)
    (cost : o.cost ≡ v.cost)
    (opened : u ≡ record v { items = []; capacity = 0; cost = no_cost })
    (moved : m ≡ record o {
      gap_before = o.gap_before + length o.middle + o.gap_after;
      middle = [];
      gap_after = 0;
    })
    (closed : w ≡ record u {
      items = items_of m;
      capacity = m.capacity;
      cost = cost_closed m;
    }) where
  pub closed-out : w ≡ record v {
    items = remove_range v.items i j;
    cost = if eqb i j then v.cost else add_moves (length v.items - j) v.cost;
  }
  closed-out =
      let width : o.gap_before + length o.middle + o.gap_after ≡ j - i =
      omega (arith, before, after, ap length middle, length-range v.items i j order within) in
      let test : eqb (o.gap_before + length o.middle + o.gap_after) 0 ≡ eqb i j =
      ap (λ (n : ℕ). eqb n 0) width ∙ same-width i j order in
      let len : 0 + length o.tail ≡ length v.items - j =
      omega (arith, ap length tail, length-drop j v.items) in
      let items : items_of m ≡ remove_range v.items i j =
      ap (λ (z : OpenView T A). items_of z) moved ∙ (λ t. front t ++ tail t) in
      let same : m.capacity ≡ v.capacity =
      ap (λ (z : OpenView T A). z.capacity) moved ∙ capacity in
      let paid : cost_closed m
      ≡ (if eqb i j then v.cost else add_moves (length v.items - j) v.cost) =
      ap (λ (z : OpenView T A). cost_closed z) moved
      ∙ (λ t. if test t then cost t else add_moves (len t) (cost t)) in
      closed
      ∙ (λ t. record (opened t) { items = items t; capacity = same t; cost = paid t })

module _ {T A : Type 0} (x u y : ListView T A) (o g m : OpenView T A) (place i j : ℕ)
    (ms zs : List T) (order : i ≤ j) (is : ms ≡ zs) (size : length ms ≡ j - i)
    (front : o.front ≡ take place x.items) (middle : o.middle ≡ slice_range x.items place place)
    (tail : o.tail ≡ drop place x.items) (before : o.gap_before ≡ 0)
    (capacity : o.capacity ≡ x.capacity) (cost : o.cost ≡ x.cost)
    (opened : u ≡ record x { items = []; capacity = 0; cost = no_cost })
    (widened : g ≡ record o {
      gap_before = o.gap_before + (j - i);
      cost = if eqb (j - i) 0 then o.cost else add_moves (length o.tail) o.cost;
    })
    (filled : m ≡ record g {
      front = g.front ++ ms;
      gap_before = g.gap_before - length ms;
      cost = add_moves (length ms) g.cost;
    })
    (closed : y ≡ record u {
      items = items_of m;
      capacity = m.capacity;
      cost = cost_closed m;
    }) where
  pub closed-in : y ≡ record x {
    items = replace_range x.items place place zs;
    cost = add_moves (j - i + (if eqb i j then 0 else length x.items - place)) x.cost;
  }
  closed-in =
      let none : o.middle ≡ [] = middle ∙ empty-range x.items place in
      let fronts : g.front ≡ take place x.items =
      ap (λ (z : OpenView T A). z.front) widened ∙ front in
      let middles : g.middle ≡ [] = ap (λ (z : OpenView T A). z.middle) widened ∙ none in
      let tails : g.tail ≡ drop place x.items =
      ap (λ (z : OpenView T A). z.tail) widened ∙ tail in
      let items : items_of m ≡ replace_range x.items place place zs =
      ap (λ (z : OpenView T A). items_of z) filled
      ∙ (λ t. (fronts t ++ is t) ++ (middles t ++ tails t)) in
      let same : m.capacity ≡ x.capacity =
      ap (λ (z : OpenView T A). z.capacity) filled
      ∙ (ap (λ (z : OpenView T A). z.capacity) widened ∙ capacity) in
      let gap : m.gap_before ≡ 0 =
      omega (
        arith,
        ap (λ (z : OpenView T A). z.gap_before) filled,
        ap (λ (z : OpenView T A). z.gap_before) widened,
        before,
        size,
      ) in
      let test : eqb (j - i) 0 ≡ eqb i j = same-width i j order in
      let len : length o.tail ≡ length x.items - place =
      omega (arith, ap length tail, length-drop place x.items) in
      let old : ℕ = if eqb (j - i) 0 then 0 else length o.tail in
      let new : ℕ = if eqb i j then 0 else length x.items - place in
      let shifted : old ≡ new = λ t. if test t then 0 else len t in
      let sum : old + length ms ≡ j - i + new = omega (arith, shifted, size) in
      let widening : g.cost ≡ add_moves old o.cost =
      ap (λ (z : OpenView T A). z.cost) widened
      ∙ moved-if (eqb (j - i) 0) (length o.tail) o.cost in
      let paid : cost_closed m ≡ add_moves (j - i + new) x.cost =
      ap (λ (q : ℕ). if eqb q 0 then m.cost else add_moves
      (length m.middle + length m.tail) m.cost) gap
      ∙ (ap (λ (z : OpenView T A). z.cost) filled
      ∙ (ap (λ (c : Cost). add_moves (length ms) c) widening
      ∙ (moving-more (length ms) old o.cost ∙ (λ t. add_moves (sum t) (cost t))))) in
      closed
      ∙ (λ t. record (opened t) { items = items t; capacity = same t; cost = paid t })
