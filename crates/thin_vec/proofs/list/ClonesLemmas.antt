-- These lemmas are for calls that clone items and write the clones into empty slots. The last two
-- lemmas are about the items in a range of a list.
use Rattle.std.proofs.Common.{◌≡◌, ◌+◌, ◌-◌, ◌<◌, ◌≤◌, [], ◌∷◌, ◌++◌, ◌∙◌, ◌⊎◌, Err, List, Ok, OnErr, Option, Result, Some, ap, append_assoc, arith, drop, get_or, inl, inr, length, refl, suc, sym, take, zero, ℕ}
use Rattle.std.proofs.lemmas.List.{get_or-drop, get_or-take, get_or_append_left, length-drop, length-take-le, map_push, replicate-append-replicate}
use Rattle.std.proofs.lemmas.List.Elements.{All-from_recursion, all_zip_more, length_all_zip, recursion_from_All}
use Rattle.std.proofs.Math.Seq.{take-append_seam}
use Rattle.std.specs.List.{AllByRecursion, AllZip}
use Rattle.std.specs.Align.{type_align}
use Rattle.std.specs.Mem.{type_size}
use Rattle.std.specs.Borrow.{RattleType}
use Rattle.std.specs.Prelude.{All, HoldsAt, IsErrOf, replicate, slice_range}
use Rattle.thin_block.specs.declared.errors.ThinVecError.{ThinVecError}
use Rattle.thin_block.specs.declared.errors.ThinVecError.TheVariants.{CapacityOverflow}
use Rattle.thin_block.proofs.ResultLemmas.{none-some}
use Rattle.thin_vec.specs.List.Capacity.{OverflowsIff}
use lib.ListN.{set}
use Rattle.thin_block.specs.Growth.{GrowthRule, grown_capacity}
use Rattle.thin_block.specs.Slots.{filled_slots, write_slots}
use Rattle.thin_block.proofs.SlotsLemmas.{written-one}
use Rattle.thin_block.specs.Cost.{Cost, add_moves}
use Rattle.thin_vec.specs.List.Clones.{AppendsRepeats, FailsAtClone, LeftByFailedClone, WritesClones}
use Rattle.thin_vec.specs.ThinVec.{IsNew, ListView, capacity_after_reserve, cost_after_resize}
use Rattle.thin_vec.proofs.ListBlockLemmas.{length-full}

module _ {T : Type 0} {clones : T → T → Type 0} {sources : List T} {n i : ℕ}
    {s s' : List (Option T)} (lays : WritesClones clones sources n i s s') where
  pub length-copies : n ≤ length sources → length lays.copies ≡ n
  length-copies few = sym (length_all_zip clones (take n sources) lays.copies lays.cloned)
      ∙ length-take-le n sources few

  pub lays-more : (y : T) {x : T} {s'' : List (Option T)} → n < length sources
      → i + length sources ≤ length s → x ≡ get_or sources n x → clones x y
      → s'' ≡ set s' (i + n) (Some y) → WritesClones clones sources (n + 1) i s s''
  lays-more y {x} more room is is_clone put =
      let ys = lays.copies in
      let long : i + n ≡ i + length (filled_slots ys) =
      omega (arith, length-copies (omega arith), length-full ys) in
      record {
        copies = ys ++ y ∷ [];
        cloned = all_zip_more clones sources ys n x y more is lays.cloned is_clone;
        slots = put ∙ (ap (λ r. set r (i + n) (Some y)) lays.slots
            ∙ (written-one i (filled_slots ys) s (i + n) (Some y) long (omega arith)
            ∙ ap (λ r. write_slots i r s) (sym (map_push Some ys y))));
      }

pub all-repeated : {T : Type 0} (clones : T → T → Type 0) (x : T) (n m : ℕ) (ys : List T)
    → AllZip clones (take n (replicate m x)) ys → All (clones x) ys
all-repeated {T} clones x n m ys cloned = All-from_recursion (clones x) ys (each n m ys cloned)
  where
    each : (n m : ℕ) (ys : List T) → AllZip clones (take n (replicate m x)) ys
        → AllByRecursion (clones x) ys
    each zero m [] e = tt
    each zero m (y ∷ ys) e = absurd e
    each (suc n) zero [] e = tt
    each (suc n) zero (y ∷ ys) e = absurd e
    each (suc n) (suc m) [] e = absurd e
    each (suc n) (suc m) (y ∷ ys) e = (e.0, each n m ys e.1)

module _ {T : Type 0} (clones : T → T → Type 0) where
  pub equal-repeated : (n m : ℕ) {x : T} {xs ys zs : List T} → ((y : T) → clones x y → y ≡ x)
      → AppendsRepeats clones x n xs ys → zs ≡ ys ++ x ∷ [] → m ≡ n + 1 → zs ≡ xs ++ replicate m x
  equal-repeated n m {x} {xs} equal repeats last one =
      let copies = repeats.copies in
      let same : copies ≡ replicate n x =
      each copies (recursion_from_All (clones x) copies repeats.cloned)
      ∙ ap (λ k. replicate k x) repeats.count in
      last
      ∙ (ap (λ (l : List T). l ++ x ∷ []) (repeats.items ∙ ap (λ (l : List T). xs ++ l) same)
      ∙ (append_assoc xs (replicate n x) (x ∷ []) ∙ ap (λ (l : List T). xs ++ l)
      (replicate-append-replicate n 1 x ∙ ap (λ k. replicate k x) (sym one))))
    where
      each : (ys : List T) → AllByRecursion (clones x) ys → ys ≡ replicate (length ys) x
      each [] e = refl
      each (y ∷ ys) e = λ i. equal y e.0 i ∷ each ys e.1 i

pub capacity-new : {T A : Type 0} (rule : GrowthRule) (R : RattleType) (v : ListView T A) (a : A)
    (k : ℕ)
    → IsNew v a → capacity_after_reserve rule R v (k - length v.items)
    ≡ grown_capacity rule (type_size R) (type_align R) 0 k
capacity-new rule R v a k new =
    ap (λ c. grown_capacity rule (type_size R) (type_align R) c
    (length v.items + (k - length v.items))) new.capacity
    ∙ ap (λ n. grown_capacity rule (type_size R) (type_align R) 0 n)
    (let e : length v.items + (k - length v.items) ≡ k = omega (arith, ap length new.items) in
    e)

pub not-all : {X : Type 0} (P : X → Type 0) (xs : List X) (i : ℕ) → i < length xs
    → HoldsAt (λ x. ¬ (P x)) xs i → All P xs → ⊥
not-all P [] i low never all = absurd (omega arith)
not-all P (x ∷ xs) i low never all = never x (all i x low)

pub ruleset new_lists = (capacity-new)

-- If a list is truncated to its old length, the items that were appended are gone.
pub cut-back : {T : Type 0} (xs ys : List T) {zs ws : List T} {n : ℕ} → ws ≡ take n zs
    → zs ≡ xs ++ ys → n ≡ length xs → ws ≡ xs
cut-back xs ys {zs} {ws} {n} cut appended same =
    cut ∙ (ap (take n) appended
    ∙ (ap (λ k. take k (xs ++ ys)) same ∙ take-append_seam xs ys))

-- In this module, a call reserves room, which changes the list `v` to `u`. Then a clone fails, and
-- the clones that were made are dropped, which leaves the list `w`.
module _ {T A : Type 0} (infallible : T → Type 0) (sources : List T) (v u w : ListView T A)
    {named : Option ℕ} (is : named ≡ Some u.capacity) (items : u.items ≡ v.items)
    (cost : u.cost ≡ cost_after_resize v u.capacity) (same : w.capacity ≡ u.capacity) where
  pub grew : w.items ≡ u.items → FailsAtClone infallible sources u.cost w.cost
      → LeftByFailedClone named infallible sources v w
  grew kept fails = record {
    items = kept ∙ items;
    capacity = is ∙ ap Some (sym same);
    at = fails.at;
    in_bounds = fails.in_bounds;
    fallible = fails.fallible;
    cost = fails.cost
        ∙ ap (λ (c : Cost). add_moves fails.at c)
        (cost ∙ ap (λ n. cost_after_resize v n) (sym same));
  }

  pub grew-after : {X E : Type 0} (P : Type 0) (r : Result X E) → OnErr r (w.items ≡ u.items)
      → OnErr r (FailsAtClone infallible sources u.cost w.cost)
      → OnErr r (P ⊎ LeftByFailedClone named infallible sources v w)
  grew-after P (Ok x) kept fails = tt
  grew-after P (Err e) kept fails = inr (grew kept fails)

-- A capacity that is too large fails before any item is cloned.
pub overflow-unchanged : {T A X : Type 0} {wanted : Option ℕ} (infallible : T → Type 0)
    (sources : List T) {v w : ListView T A} (P : Type 0) (r : Result X ThinVecError)
    → OverflowsIff wanted r
    → OnErr r ((P × (w ≡ v)) ⊎ LeftByFailedClone wanted infallible sources v w)
    → IsErrOf r CapacityOverflow → w ≡ v
overflow-unchanged infallible sources P (Ok x) only err is = cc
overflow-unchanged infallible sources P (Err e) only (inl same) is = same.1
overflow-unchanged infallible sources P (Err e) only (inr left) is =
    absurd (none-some (only.overflow.0 is) left.capacity)

module _ {T : Type 0} (xs : List T) (a b : ℕ) (within : b ≤ length xs) where
  pub length-range : length (slice_range xs a b) ≡ b - a
  length-range = length-take-le (b - a) (drop a xs) (omega (arith, length-drop a xs))

  pub get-range : (ys : List T) (i : ℕ) (x : T) → i < b - a → x ≡ get_or (xs ++ ys) (a + i) x
      → x ≡ get_or (slice_range xs a b) i x
  get-range ys i x less is = is ∙ (get_or_append_left xs ys x (a + i) (omega arith)
      ∙ sym (get_or-take (b - a) (drop a xs) i x less ∙ get_or-drop a xs i x))
