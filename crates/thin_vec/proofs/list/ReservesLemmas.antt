-- These lemmas prove that calls satisfy `PreservesList` and `OverflowsIff`. These definitions say
-- what a call preserves of a list, and when it returns the error `CapacityOverflow`.
use Rattle.std.proofs.Common.{◌≡◌, ℕ, ◌+◌, ◌*◌, ◌≤◌, ◌⊎◌, Err, List, None, Ok, Option, Result, Some, ap, arith, inr, length, sym, ◌∙◌}
use Rattle.std.specs.Align.{type_align}
use Rattle.std.specs.Mem.{type_size}
use Rattle.std.specs.Borrow.{RattleType}
use Rattle.std.specs.Prelude.{◌↔◌, IfErr, IsErrOf, OnOk}
use Rattle.thin_block.specs.declared.errors.ThinVecError.{ThinVecError}
use Rattle.thin_block.specs.declared.errors.ThinVecError.TheVariants.{CapacityOverflow, OutOfMemory}
use Rattle.thin_block.specs.Capacity.{Fits}
use Rattle.thin_block.specs.Cost.{Cost}
use Rattle.thin_block.specs.Growth.{GrowsValidly, GrowthRule, exact_capacity}
use Rattle.thin_block.specs.declared.block.Block.{Block}
use Rattle.thin_block.proofs.CapacityLemmas.{ruled-same}
use Rattle.thin_block.proofs.ResultLemmas.{err-same, none-some, ok-err}
use Rattle.thin_vec.specs.Cheap.{IsCheap}
use Rattle.thin_vec.specs.List.Capacity.{FailsForRoom, OverflowsIff, OverflowsIffTooLarge, PreservesList}
use Rattle.thin_vec.specs.ThinVec.{HasRoomFor, IsListBlock, IsBounded, ListView, capacity_after_reserve, list_view}
use Rattle.thin_vec.proofs.ListBlockLemmas.{RestoresInvariant}
use Rattle.thin_vec.proofs.BoundsLemmas.{bounds-kept}

pub tells-ok : {X : Type 0} (x : X) (named : Option ℕ) (n : ℕ) → named ≡ Some n
    → OverflowsIff named (Ok x)
tells-ok x named n is = record {
  overflow = (λ e. ok-err x CapacityOverflow e, λ none. absurd (none-some none is));
}

pub tells-made : {X : Type 0} {x y : X} (R S : RattleType) (m n : ℕ)
    → exact_capacity (type_size R) (type_align R) 0 m
    ≡ exact_capacity (type_size S) (type_align S) 0 n
    → OverflowsIffTooLarge R m (let r : Result X ThinVecError = Ok x in r)
    → OverflowsIffTooLarge S n (let r : Result X ThinVecError = Ok y in r)
tells-made {x = x} {y} R S m n e told = record {
  overflow = (
    λ over. ok-err y CapacityOverflow over,
    λ none. ok-err x CapacityOverflow (told.overflow.1 (e ∙ none)),
  );
}

pub tells-same : {X : Type 0} {r : Result X ThinVecError} (R S : RattleType) (m n : ℕ)
    → exact_capacity (type_size R) (type_align R) 0 m
    ≡ exact_capacity (type_size S) (type_align S) 0 n → OverflowsIffTooLarge R m r
    → OverflowsIffTooLarge S n r
tells-same R S m n e told = record {
  overflow = (λ over. sym e ∙ told.overflow.0 over, λ none. told.overflow.1 (e ∙ none));
}

pub tells-then : {X : Type 0} (named : Option ℕ) (n : ℕ) (r : Result X ThinVecError)
    → named ≡ Some n → IfErr r (λ cause. cause ≡ OutOfMemory) → OverflowsIff named r
tells-then named n (Ok x) is _ = tells-ok x named n is
tells-then named n (Err cause) is memory = record {
  overflow = (
    λ e. cc (memory, err-same e),
    λ none. absurd (none-some none is),
  );
}

-- By the law of growth rules, a growth at least doubles the capacity.
pub doubles-grown : {X : Type 0} {T A : Type 0} (r : Result X ThinVecError) (R : RattleType)
    (v : ListView T A) (k want c : ℕ) → OnOk r (GrowsValidly R v.capacity want c)
    → OnOk r (HasRoomFor v k ⊎ (2 * v.capacity ≤ c))
doubles-grown (Ok x) R v k want c grown = inr grown.doubled
doubles-grown (Err e) R v k want c _ = tt

-- `PreservesList` is transitive.
pub keeps-join : {T A : Type 0} {R : RattleType} {u v w : ListView T A} → PreservesList R u v
    → PreservesList R v w → PreservesList R u w
keeps-join p q = record {
  alloc = q.alloc ∙ p.alloc;
  never_less = omega (arith, p.never_less, q.never_less);
  cheap = λ cheap. q.cheap (p.cheap cheap);
  within = (p.within.0, q.within.1);
}

module _ {T A : Type 0} (R : RattleType) (v : ListView T A) where
  pub cheap-kept : (w : ListView T A) → w.capacity ≡ v.capacity
      → (w.cost.blocks ≡ v.cost.blocks) × (w.cost.grown ≡ v.cost.grown) → IsCheap v → IsCheap w
  cheap-kept w capacity (blocks, grown) cheap = record {
    none = λ none. omega (arith, cheap.none (omega arith));
    grown = λ some. omega (arith, cheap.grown (omega arith));
    blocks = λ some. rw (blocks, capacity) (cheap.blocks (omega arith));
  }

  pub keeps-kept : (w : ListView T A) → w.alloc ≡ v.alloc → w.capacity ≡ v.capacity
      → (w.cost.blocks ≡ v.cost.blocks) × (w.cost.grown ≡ v.cost.grown)
      → IsBounded R v × IsBounded R w → PreservesList R v w
  keeps-kept w alloc capacity cost within = record {
    alloc = alloc;
    never_less = omega (arith, capacity);
    cheap = cheap-kept w capacity cost;
    within = within;
  }

  pub keeps-settled : {b b' : Block T A} {a : A} {xs : List T} {k : Cost} → IsListBlock b a
      → list_view b a ≡ v → Fits R (length b.slots) → RestoresInvariant b' a xs (length b.slots)
      → b'.cost ≡ k → (k.blocks ≡ b.cost.blocks) × (k.grown ≡ b.cost.grown)
      → PreservesList R v (list_view b' a)
  keeps-settled {b} {b'} {a} {xs} thin is fits after cost (blocks, grown) =
      keeps-kept (list_view b' a) (ap (λ (z : ListView T A). z.alloc) is)
      (after.cap ∙ ap (λ (z : ListView T A). z.capacity) is) (
        ap (λ (c : Cost). c.blocks) cost ∙ (blocks ∙ ap (λ (z : ListView T A). z.cost.blocks) is),
        ap (λ (c : Cost). c.grown) cost ∙ (grown ∙ ap (λ (z : ListView T A). z.cost.grown) is),
      )
      (bounds-kept R b a b' v xs thin is fits after)

  module _ (rule : GrowthRule) where
    pub lacks-room : {X : Type 0} (k : ℕ) (cause : ThinVecError) → (HasRoomFor v k → ⊥)
        → IsErrOf {T = X} (Err cause) CapacityOverflow ↔ (capacity_after_reserve rule R v k ≡ None)
        → FailsForRoom rule R v k cause
    lacks-room k cause full overflow = (
      full,
      (λ over. overflow.0 (ap Err over), λ none. err-same (overflow.1 none)),
    )

    -- If there is room, the capacity after `reserve` is the old one.
    pub capacity-kept : (k : ℕ) (w : ListView T A) → HasRoomFor v k → w.capacity ≡ v.capacity
        → capacity_after_reserve rule R v k ≡ Some w.capacity
    capacity-kept k w room same =
        ruled-same rule _ _ v.capacity (length v.items + k) room ∙ ap Some (sym same)
