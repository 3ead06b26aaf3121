-- Lemmas for the proof that each command changes the list as `specs/Steps` states.
use Rattle.std.proofs.Common.{◌≡◌, ℕ, ◌<◌, ◌⊎◌, List, [], ◌∷◌, Some, refl, length, inl, inr, arith}
use Rattle.std.specs.Borrow.{RattleType}
use Rattle.std.specs.Prelude.{HoldsAt}
use Rattle.thin_vec.specs.List.Clones.{LeftByFailedClone}
use Rattle.thin_vec.specs.Cost.{add_moves}
use Rattle.thin_vec.specs.Growth.{GrowthRule}
use Rattle.thin_vec.specs.ThinVec.{HasRoomFor, ListView, capacity_after_reserve, cost_after_resize}
use Rattle.thin_runner.specs.commands.Items.{set_capacity, set_items}

pub some-items : {X : Type 0} (xs : List X) → (xs ≡ [] → ⊥) → 0 < length xs
some-items [] none = absurd (none refl)
some-items (x ∷ xs) none = omega arith

module _ {T A : Type 0} where
  pub is-set : (v w : ListView T A) (xs : List T) (m : ℕ) → w.items ≡ xs
      → w.cost ≡ add_moves m (cost_after_resize v w.capacity) → w.alloc ≡ v.alloc
      → w ≡ set_items (set_capacity v w.capacity) xs m
  is-set v w xs m items cost alloc = λ i. record {
    items = items i;
    capacity = w.capacity;
    alloc = alloc i;
    cost = cost i;
  }

  module _ (rule : GrowthRule) where
    -- If a call that clones items fails, the list is unchanged, or it grew and some clones were
    -- made.
    pub refuses-clone : (R : RattleType) (k : ℕ) {infallible : T → Type 0} {sources : List T}
        {v w : ListView T A} → w.alloc ≡ v.alloc
        → (¬ (HasRoomFor v k) × (w ≡ v))
        ⊎ LeftByFailedClone (capacity_after_reserve rule R v k) infallible sources v w
        → (w ≡ v) ⊎ ((at : ℕ) × (at < length sources)
        × HoldsAt (λ x. ¬ (infallible x)) sources at
        × ((capacity_after_reserve rule R v k ≡ Some w.capacity)
        × (w ≡ set_items (set_capacity v w.capacity) v.items at)))
    refuses-clone R k alloc (inl e) = inl e.1
    refuses-clone R k {v = v} {w} alloc (inr r) =
        inr (
          r.at,
          r.in_bounds,
          r.fallible,
          (r.capacity, is-set v w v.items r.at r.items r.cost alloc),
        )
