-- This file defines `ListView`, the view of a `ThinVec` that contracts use, and basic statements
-- about lists.
use Rattle.std.specs.Prelude.{◌≡◌, ℕ, ◌+◌, ◌^◌, ◌<◌, ◌≤◌, ◌==◌, List, [], Option, if◌then◌else◌, length, refl}
use Rattle.std.specs.declared.option.Option.TheVariants.{None}
use Rattle.thin_block.specs.declared.errors.ThinVecError.{ThinVecError}
use Rattle.thin_block.specs.declared.errors.ThinVecError.TheVariants.{CapacityOverflow}
use Rattle.std.specs.Borrow.{RattleType}
use Rattle.std.specs.Align.{type_align}
use Rattle.std.specs.Mem.{type_size}
use Rattle.std.specs.Coded.{Coded, code_by, coded×, coded_ℕ, coded_list}
use Rattle.thin_block.specs.Block.{IsAllocatedBy}
use Rattle.thin_block.specs.Capacity.{Fits}
use Rattle.thin_block.specs.Cost.{Cost, cost_code, no_cost, add_realloc}
use Rattle.thin_block.specs.Growth.{GrowthRule, exact_capacity, grown_capacity}
use Rattle.thin_block.specs.Slots.{IsPacked, items_in}
use Rattle.thin_block.specs.declared.block.Block.{Block}

-- A value of `ListView T A` describes a `ThinVec` in contracts: its items, capacity, allocator and
-- recorded cost. The item type is `T`, and the allocator type is `A`.
pub record ListView (T A : Type 0) : Type 0 where
  pub items : List T
  pub capacity : ℕ
  pub alloc : A
  pub cost : Cost

-- `list_view_code` encodes a value of the type `ListView` as the tuple of its four fields.
abbrev pub list_view_code : {T A : Type 0} → Coded T → Coded A → Coded (ListView T A)
list_view_code {T} {A} t a =
    code_by (List T × (ℕ × (A × Cost)))
    (coded× (coded_list t) (coded× coded_ℕ (coded× a cost_code)))
    (λ v. (v.items, (v.capacity, (v.alloc, v.cost))))
    (λ p. record { items = p.0; capacity = p.1.0; alloc = p.1.1.0; cost = p.1.1.1 }) (λ _. refl)

module _ {T A : Type 0} where
  -- `IsListBlock b a` holds if `b` is the block of a list with the allocator `a`: its items fill
  -- the first slots, all other slots are empty, and the stored length is correct.
  pub record IsListBlock (b : Block T A) (a : A) : Type 0 where
    pub packed : IsPacked b.slots b.len
    pub from : IsAllocatedBy b.alloc a

  -- `list_view b a` is how contracts see the list with the block `b` and the allocator `a`: as a
  -- value of the type `ListView`.
  abbrev pub list_view : Block T A → A → ListView T A
  list_view b a = record {
    items = items_in b.slots;
    capacity = length b.slots;
    alloc = a;
    cost = b.cost;
  }

  -- `IsNew v a` states that `v` is a new list with the allocator `a`: it has no items, and its
  -- capacity and its cost are 0.
  pub record IsNew (v : ListView T A) (a : A) : Type 0 where
    pub items : v.items ≡ []
    pub capacity : v.capacity ≡ 0
    pub alloc : v.alloc ≡ a
    pub cost : v.cost ≡ no_cost

  -- `IsBounded R v` holds if the length of the list `v` is at most its capacity, and a block of
  -- this capacity for items of the type `R` is small enough to be allocated.
  pub record IsBounded (R : RattleType) (v : ListView T A) : Type 0 where
    pub room : length v.items ≤ v.capacity
    -- This follows from `fits`. Proofs by arithmetic use it, since they do not unfold `fits`.
    pub small : v.capacity < 2 ^ 63
    pub fits : Fits R v.capacity

  -- `HasRoomFor v k` states that the list `v` has room for `k` more items without growing.
  abbrev pub HasRoomFor : ListView T A → ℕ → Type 0
  HasRoomFor v k = length v.items + k ≤ v.capacity

  -- `capacity_after_reserve rule R v k` is the capacity of the list `v` after `reserve(k)`, under
  -- the growth rule `rule`, for items of the type `R`. It is `None` if the rule chooses none.
  abbrev pub capacity_after_reserve : GrowthRule → RattleType → ListView T A → ℕ → Option ℕ
  capacity_after_reserve rule R v k =
      grown_capacity rule (type_size R) (type_align R) v.capacity (length v.items + k)

  -- `capacity_after_reserve_exact R v k` is the capacity of the list `v` after `reserve_exact(k)`,
  -- for items of the type `R`. It is `None` if a block of this capacity would be too large.
  abbrev pub capacity_after_reserve_exact : RattleType → ListView T A → ℕ → Option ℕ
  capacity_after_reserve_exact R v k =
      exact_capacity (type_size R) (type_align R) v.capacity (length v.items + k)

  -- `cost_after_resize v c` is the recorded cost of the list `v` after its capacity was set to `c`.
  -- If the capacity changes, this counts as one request for memory and a copy of each item.
  abbrev pub cost_after_resize : ListView T A → ℕ → Cost
  cost_after_resize v c = if c == v.capacity then v.cost else add_realloc (length v.items) v.cost

  -- `cost_after_shrink v c` is the cost of the list `v` after its capacity shrinks to `c`.
  -- Shrinking to 0 frees the block and sets the cost to 0. Any other shrinking counts as one
  -- reallocation, which copies each item.
  abbrev pub cost_after_shrink : ListView T A → ℕ → Cost
  cost_after_shrink v c = if c == v.capacity then v.cost else
      (if c == 0 then no_cost else add_realloc (length v.items) v.cost)

  -- `cost_shrunk v` is the recorded cost of the list `v` after a call that shrinks its capacity to
  -- its length.
  abbrev pub cost_shrunk : ListView T A → Cost
  cost_shrunk v = cost_after_shrink v (length v.items)

-- `named` is the capacity that the growth rule chooses for a failed call, or `None` if it chooses
-- none. `IsCauseOf named cause` states that the error `cause` can be `CapacityOverflow` only if
-- `named` is `None`.
abbrev pub IsCauseOf : Option ℕ → ThinVecError → Type 0
IsCauseOf named cause = cause ≡ CapacityOverflow → named ≡ None

-- `cost_of_new c` is the cost of a new list with the capacity `c` and no items.
abbrev pub cost_of_new : ℕ → Cost
cost_of_new c = if c == 0 then no_cost else add_realloc 0 no_cost
