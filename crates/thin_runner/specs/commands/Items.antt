-- These definitions state how a call that adds, removes or replaces items changes a list, and how
-- it fails if there is no room. (std: `Vec::push`, `Vec::insert`, `Vec::remove`)
use Rattle.std.specs.Prelude.{◌≡◌, ℕ, ◌↔◌, List, None, Option, Some}
use Rattle.thin_vec.specs.Cost.{add_moves}
use Rattle.thin_vec.specs.ThinVec.{HasRoomFor, ListView, capacity_after_reserve, cost_after_resize}
use Rattle.thin_vec.specs.declared.ThinVecError.{ThinVecError}
use Rattle.thin_vec.specs.declared.ThinVecError.TheVariants.{CapacityOverflow}
use Rattle.thin_runner.specs.Env.{Env}

module _ {T A : Type 0} where
  -- `set_items old xs m` is the list `old` after its items were replaced with the items `xs`. Its
  -- cost contains `m` more moves than the cost of `old`.
  abbrev pub set_items : ListView T A → List T → ℕ → ListView T A
  set_items old xs m = record old { items = xs; cost = add_moves m old.cost }

  -- `set_capacity old c` is the list `old` after its capacity was changed to `c`. Its cost includes
  -- the cost of this change.
  abbrev pub set_capacity : ListView T A → ℕ → ListView T A
  set_capacity old c = record old { capacity = c; cost = cost_after_resize old c }

  -- `Refuses named old k cause new` holds if a call may fail with `cause` because the list `old`
  -- has no room for `k` more items. The list does not change, so `new` equals `old`. The option
  -- `named` is the capacity that the call needs, or `None` if this capacity is too large to be
  -- allocated.
  abbrev pub Refuses : Option ℕ → ListView T A → ℕ → ThinVecError → ListView T A → Type 0
  Refuses named old k cause new =
      ¬ (HasRoomFor old k) × ((named ≡ None) ↔ (cause ≡ CapacityOverflow)) × (new ≡ old)

module _ {T A J : Type 0} (here : Env T A J) where
  -- `ReservesAndSets old k xs m new` holds if a call may turn the list `old` into `new` in two
  -- steps. First, the call reserves room for `k` more items. Second, the call replaces all items
  -- with the items `xs`, and adds `m` moves to the cost.
  abbrev pub ReservesAndSets : ListView T A → ℕ → List T → ℕ → ListView T A → Type 0
  ReservesAndSets old k xs m new =
      (capacity_after_reserve here.rule here.R old k ≡ Some new.capacity)
      × (new ≡ set_items (set_capacity old new.capacity) xs m)
