-- This definition states how a list may change if a call that clones many items fails. (std:
-- `Vec::resize`, `Vec::extend_from_slice`)
use Rattle.std.specs.Prelude.{◌≡◌, ◌⊎◌, ℕ, ◌<◌, ◌↔◌, List, All, HoldsAt, None, length}
use Rattle.thin_vec.specs.ThinVec.{HasRoomFor, ListView, capacity_after_reserve}
use Rattle.thin_vec.specs.declared.ThinVecError.{ThinVecError}
use Rattle.thin_vec.specs.declared.ThinVecError.TheVariants.{CapacityOverflow}
use Rattle.thin_runner.specs.Env.{Env}
use Rattle.thin_runner.specs.commands.Items.{ReservesAndSets}

module _ {T A J : Type 0} (here : Env T A J) where
  -- `RefusesClone old k sources cause new` holds if a call that adds `k` items and clones the items
  -- `sources` may fail with `cause` and turn the list `old` into `new`. The items of the list do
  -- not change, but its capacity may grow.
  abbrev pub RefusesClone : ListView T A → ℕ → List T → ThinVecError → ListView T A → Type 0
  RefusesClone old k sources cause new =
      ((capacity_after_reserve here.rule here.R old k ≡ None) ↔ (cause ≡ CapacityOverflow))
      × (HasRoomFor old k → ¬ (All here.infallible sources))
      × ((new ≡ old) ⊎ ((at : ℕ) × (at < length sources)
      × HoldsAt (λ x. ¬ (here.infallible x)) sources at
      × ReservesAndSets here old k old.items at new))
