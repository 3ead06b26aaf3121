-- The definitions in this file describe calls that add the items of an iterator to a list, such as
-- std's `Vec::extend`. In this file, `v` is the list before the call, `w` is the list after the
-- call, and `R` is the type of the items. The number `limit` is an upper bound on the number of
-- items that the iterator may still yield. `IsWithinCount h limit` is std's: `h` is at most
-- `limit`, if `limit` is finite.
use Rattle.std.specs.Prelude.{◌≡◌, ℕ, zero, suc, ◌+◌, ◌-◌, ◌<◌, ◌≤◌, List, ◌++◌, Option, false, if◌then◌else◌, ◌==◌, length, option_and_then}
use Rattle.std.specs.Option.{option_map_or}
use Rattle.std.specs.Iterator.{Count, IsFinite, Yields, size}
use Rattle.std.specs.Iterator.SizeHint.{IsWithinCount}
use Rattle.std.specs.declared.option.Option.TheVariants.{Some}
use Rattle.std.specs.Align.{type_align}
use Rattle.std.specs.Borrow.{RattleType}
use Rattle.std.specs.Mem.{type_size}
use Rattle.thin_block.specs.Cost.{Cost, add_moves, add_realloc}
use Rattle.thin_block.specs.Growth.{GrowthRule, doubling, grown_capacity}
use Rattle.thin_vec.specs.Cheap.{IsCheap}
use Rattle.thin_vec.specs.List.Capacity.{IsFreshList, PreservesList}
use Rattle.thin_vec.specs.ThinVec.{IsBounded, ListView, capacity_after_reserve, cost_after_resize, cost_of_new}

-- `YieldsAndCanContinue steps can remaining s ys t` states that the iterator `s` yielded the items
-- `ys` and became `t`, and that `next` may be called on `t`.
--
-- `steps` describes one call to `next`, `can x` states that `next` may be called on `x`, and
-- `remaining x` bounds the number of items that `x` still yields.
pub record YieldsAndCanContinue {S X : Type 0} (steps : S → Option X → S → Type 0)
    (can : S → Type 0)
    (remaining : S → Count) (s : S) (ys : List X) (t : S) : Type 0 where
  pub gave : Yields steps s ys t
  pub can_next : can t
  pub finite : IsFinite (remaining t)

-- `capacity_after_pushes rule R c n` is the capacity of a list that had the capacity `c`, after
-- items of the type `R` were pushed one by one until its length was `n`. Only a push onto a full
-- list changes the capacity: the growth rule `rule` chooses it for one item more. It is `None` if
-- the rule chooses none for a push.
unfoldable pub capacity_after_pushes : GrowthRule → RattleType → ℕ → ℕ → Option ℕ
capacity_after_pushes rule R c zero = Some c
capacity_after_pushes rule R c (suc n) =
    option_and_then (λ d. grown_capacity rule (type_size R) (type_align R) d (suc n))
    (capacity_after_pushes rule R c n)

-- `cost_after_pushes rule R c n cost` is the recorded cost of a list that had the capacity `c`,
-- after pushes as for `capacity_after_pushes`, if it was `cost` before. The moves of the pushed
-- items are left out. A push onto a full list makes one request for memory, which copies all items.
unfoldable pub cost_after_pushes : GrowthRule → RattleType → ℕ → ℕ → Cost → Cost
cost_after_pushes rule R c zero cost = cost
cost_after_pushes rule R c (suc n) cost =
    if option_map_or (λ d. d == n) (capacity_after_pushes rule R c n) false
    then add_realloc n (cost_after_pushes rule R c n cost)
    else cost_after_pushes rule R c n cost

module _ {T A : Type 0} where
  -- `IsAfterPushes rule R v w` holds if the list `w` has the capacity and the cost of the list `v`
  -- after items were pushed one by one until it had as many items as `w`. The growth rule is
  -- `rule`, and the item type is `R`. No public contract uses this definition.
  pub record IsAfterPushes (rule : GrowthRule) (R : RattleType) (v w : ListView T A) : Type 0 where
    pub capacity : capacity_after_pushes rule R v.capacity (length w.items) ≡ Some w.capacity
    pub cost : w.cost ≡ add_moves (length w.items - length v.items)
        (cost_after_pushes rule R v.capacity (length w.items) v.cost)

  -- `IsAfterExtend rule R v h w` states which capacity and which cost the list `w` has. It is the
  -- list `v` after `reserve(h)`, and then a `push` of each new item. The growth rule is `rule`, and
  -- the item type is `R`.
  pub record IsAfterExtend (rule : GrowthRule) (R : RattleType) (v : ListView T A) (h : ℕ)
      (w : ListView T A) : Type 0 where
    -- The capacity after `reserve(h)`.
    pub reserved : ℕ
    pub reserves : capacity_after_reserve rule R v h ≡ Some reserved
    pub capacity : capacity_after_pushes rule R reserved (length w.items) ≡ Some w.capacity
    -- Each pushed item moves once.
    pub cost : w.cost ≡ add_moves (length w.items - length v.items)
        (cost_after_pushes rule R reserved (length w.items) (cost_after_resize v reserved))

  -- `IsAfterCollect rule R h w` states which capacity and which cost the list `w` has. It was made
  -- with the capacity `h`, and then got each item by `push`. The growth rule is `rule`, and the
  -- item type is `R`.
  pub record IsAfterCollect (rule : GrowthRule) (R : RattleType) (h : ℕ)
      (w : ListView T A) : Type 0 where
    pub capacity : capacity_after_pushes rule R h (length w.items) ≡ Some w.capacity
    -- Each item moves once.
    pub cost : w.cost ≡ add_moves (length w.items)
        (cost_after_pushes rule R h (length w.items) (cost_of_new h))

  -- `IsCollectedList rule R a w limit` describes a new list `w` that was made from the items of an
  -- iterator. The allocator is `a`, the growth rule is `rule`, and the item type is `R`. The
  -- iterator could yield at most `limit` items.
  pub record IsCollectedList (rule : GrowthRule) (R : RattleType) (a : A) (w : ListView T A)
      (limit : Count)
      : Type 0 where
    -- In this case, nothing was allocated.
    pub none : size limit ≡ 0 → w.capacity ≡ 0
    -- The number `h` is some number within the limit. Tests show that it is the lower bound in the
    -- size hint, or 0 if nothing was allocated before the pushes.
    pub pushed : (h : ℕ) × IsWithinCount h limit × IsAfterCollect rule R h w
    pub made : IsFreshList R a w

  -- `ExtendsList rule R v xs w` describes a call that appended the items `xs` to a list, and
  -- changed the list from `v` to `w`. The growth rule is `rule`, and the item type is `R`. The call
  -- may have succeeded, or it may have failed after it had appended `xs`.
  abbrev pub ExtendsList : GrowthRule → RattleType → ListView T A → List T → ListView T A → Type 0
  ExtendsList rule R v xs w =
      (w.items ≡ v.items ++ xs) × (length w.items ≡ length v.items + length xs)
      × ((h : ℕ) × IsAfterExtend rule R v h w) × PreservesList R v w

  -- `IsCollectedFrom R xs v` states what `collect` promises of a list `v` that was made from the
  -- items `xs`, which are all that its iterator yields before the first `None`. `R` is the type of
  -- the items, and the growth rule is `doubling`. The number `h` is any number, since std's trait
  -- has no room for the limit. The trait names neither the allocator nor a case in which `collect`
  -- must succeed: the inherent `from_iter` does.
  abbrev pub IsCollectedFrom : RattleType → List T → ListView T A → Type 0
  IsCollectedFrom R xs v =
      (v.items ≡ xs) × (length v.items ≡ length xs) × IsCheap v × IsBounded R v
      × ((h : ℕ) × IsAfterCollect doubling R h v)

  -- `CostsInserting n v w` bounds the recorded cost of a call that added items to a list, and
  -- changed the list from `v` to `w`. Each added item costs one move, and moving the items that
  -- were already in `v` costs at most `n` moves in total. The fields add on both sides of `≤`
  -- rather than subtract, because a subtraction on `ℕ` ends at 0. No contract of this crate says
  -- this: lemmas of `ExtendCostLemmas` and `FinishCostLemmas` derive it.
  pub record CostsInserting (n : ℕ) (v w : ListView T A) : Type 0 where
    -- There were at least as many moves as added items.
    pub least : v.cost.moves + length w.items ≤ w.cost.moves + length v.items
    -- There were at most `n` more moves than added items.
    pub moves : w.cost.moves + length v.items ≤ v.cost.moves + n + length w.items
    -- Without growth, the call requested no memory and copied no item.
    pub kept : w.capacity ≡ v.capacity → (w.cost.blocks ≡ v.cost.blocks)
        × (w.cost.grown ≡ v.cost.grown)
    -- Growth requested memory at least once, and copied each item of `v` at least once.
    pub on_growth : v.capacity < w.capacity → (v.cost.blocks < w.cost.blocks)
        × (v.cost.grown + length v.items ≤ w.cost.grown)
    -- The call copied at most as many items as the capacity has grown by.
    pub copied : w.cost.grown + v.capacity ≤ v.cost.grown + w.capacity
