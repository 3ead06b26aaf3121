-- These definitions describe a splice, which replaces the items of a range with the items of an
-- iterator, like `Vec::splice` of std. An `extend` is a splice at the end of the list.
use Rattle.std.specs.Prelude.{◌≡◌, ◌↔◌, ◌⊎◌, ℕ, ◌+◌, ◌-◌, ◌*◌, ◌<◌, ◌≤◌, List, [], ◌++◌, IsSome, None, Option, drop, length, take}
use Rattle.std.specs.Borrow.{RattleType}
use Rattle.std.specs.Iterator.{Count, at_most, size}
use Rattle.std.specs.Iterator.SizeHint.{IsWithinCount}
use Rattle.std.specs.List.{remove_range}
use Rattle.std.specs.Option.{option_to_list}
use Rattle.std.specs.Vec.Iter.{into_iter_items}
use Rattle.thin_vec.specs.Edits.Splice.{IsAfterSplice}
use Rattle.thin_vec.specs.List.Extend.{CostsInserting, IsAfterExtend}
use Rattle.thin_vec.specs.List.Capacity.{FailsForRoom, PreservesList}
use Rattle.thin_vec.specs.Growth.{GrowthRule}
use Rattle.thin_vec.specs.ThinVec.{HasRoomFor, ListView, capacity_after_reserve}
use Rattle.thin_vec.specs.declared.ThinVecError.{ThinVecError}
use Rattle.thin_vec.specs.declared.ThinVecError.TheVariants.{CapacityOverflow, OutOfMemory}
use Rattle.thin_runner.specs.declared.hinted.Hinted.{Hinted}

-- `SplicesCapacity rule R tail k v w limit` says which capacity and which cost the list `w` has. It
-- is the list `v` after items of an iterator were inserted before the items `tail`. The range has
-- `k` slots, the growth rule is `rule`, the item type is `R`, and the iterator could yield at most
-- `limit` items.
pub record SplicesCapacity {T A : Type 0} (rule : GrowthRule) (R : RattleType) (tail : List T)
    (k : ℕ) (v w : ListView T A) (limit : Count) : Type 0 where
  -- If `v` has room for all items that the iterator could yield, the capacity is unchanged.
  pub had_room : HasRoomFor v (size limit) → w.capacity ≡ v.capacity
  -- If no item follows the range, the capacity and the cost are those after `extend`.
  pub at_end : tail ≡ [] → (h : ℕ) × IsWithinCount h limit × IsAfterExtend rule R v h w
  pub before_tail : 0 < length tail → (h : ℕ) × IsAfterSplice rule R k (length tail) v h w limit

module _ {T A : Type 0} (old : ListView T A) (a b : ℕ) where
  -- `without_range` is the list `old` without the items `a..b`, and otherwise unchanged.
  abbrev pub without_range : ListView T A
  without_range = record old { items = remove_range old.items a b }

module _ {T A : Type 0} (rule : GrowthRule) (R : RattleType) (old : ListView T A) (a b : ℕ) where
  -- `Replaces placed most new` holds if a call may replace the items `a..b` of the list `old` with
  -- the items `placed`, so that the list becomes `new`. The items `placed` come from an iterator
  -- that could yield at most `most` items.
  --
  -- Each placed item counts as one move, and each item after the range as at most two.
  pub record Replaces (placed : List T) (most : ℕ) (new : ListView T A) : Type 0 where
    pub items : new.items ≡ (take a old.items ++ placed) ++ drop b old.items
    pub capacity : SplicesCapacity rule R (drop b old.items) (b - a) (without_range old a b) new
        (at_most most)
    pub cost : CostsInserting (2 * (length old.items - b)) (without_range old a b) new
    pub keeps : PreservesList R (without_range old a b) new

  -- `StopsBetween` describes a splice, or a call to `extend`, that failed with `cause` and turned
  -- the list `old` into `new`. The iterator had the items `xs`, and its size hint had the lower
  -- bound `lower`. The call put the items `placed` into the list. All other items of the iterator
  -- are returned in `held`, `in_hand` and `rest`.
  pub record StopsBetween (xs held : List T) (lower : ℕ) (cause : ThinVecError)
      (in_hand : Option T) (rest : Hinted T A) (new : ListView T A) : Type 0 where
    pub placed : List T
    pub all : xs ≡ placed ++ (held ++ (option_to_list in_hand ++ into_iter_items rest.items))
    pub claim : rest.lower ≡ lower
    pub filled : Replaces placed (lower + length xs) new
    -- As many items as the iterator could yield fit neither into the slots of the range nor, if no
    -- item follows the range, into the capacity.
    pub no_room : ¬ ((lower + length xs ≤ b - a) ⊎ ((b ≡ length old.items)
        × HasRoomFor (without_range old a b) (lower + length xs)))
    -- If `held` is empty and `in_hand` is `None`, then the call could not reserve room for `h` more
    -- items. The number `h` is a lower bound that the size hint of `rest` may have.
    pub by_hint : held ≡ [] → in_hand ≡ None
        → (h : ℕ) × IsWithinCount h (at_most (rest.lower + length (into_iter_items rest.items)))
        × FailsForRoom rule R new h cause
    -- If `held` contains items and `in_hand` is `None`, then the list had no room for the items in
    -- `held`.
    pub by_held : 0 < length held → in_hand ≡ None → FailsForRoom rule R new (length held) cause
    -- If `in_hand` contains an item, and the list `old` has items after the range, then the cause
    -- is `OutOfMemory`. In this case, the call failed because there was not enough memory to put
    -- the item into the vector `held`.
    pub by_in_hand : b < length old.items → IsSome in_hand → cause ≡ OutOfMemory
    -- Suppose that `in_hand` contains an item, and that no item of `old` follows the range. Then
    -- the cause is `CapacityOverflow` if and only if the growth rule chooses no capacity for one
    -- more item.
    pub by_push : b ≡ length old.items → IsSome in_hand
        → (cause ≡ CapacityOverflow) ↔ (capacity_after_reserve rule R new 1 ≡ None)
    -- If `held` contains items and `in_hand` is `None`, then the iterator has ended: `rest` has no
    -- items left.
    pub ended : in_hand ≡ None → 0 < length held → into_iter_items rest.items ≡ []
    -- If the list `old` has items after the range `a..b`, then the call placed at least as many
    -- items as the range had.
    pub range : b < length old.items → b - a ≤ length placed
    -- Suppose that no item of `old` follows the range. Then `held` is empty. If `in_hand` contains
    -- an item, then the list `new` is full, which means that its length equals its capacity.
    pub at_end : b ≡ length old.items → (held ≡ [])
        × (IsSome in_hand → length new.items ≡ new.capacity)
    -- If no item follows the range, and `in_hand` is `None`, then the call placed no item, so `new`
    -- is `old` without the items of the range.
    pub unchanged : b ≡ length old.items → in_hand ≡ None → new ≡ without_range old a b
