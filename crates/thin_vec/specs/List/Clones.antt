-- These definitions describe calls that clone items. `clones x y` states that cloning `x` may
-- result in `y`, and `infallible x` states that cloning `x` cannot fail.
use Rattle.std.specs.Prelude.{◌≡◌, ℕ, ◌^◌, ◌<◌, ◌≤◌, List, [], ◌∷◌, ◌++◌, All, HoldsAt, Option, Some, length, take}
use Rattle.std.specs.List.{AllZip}
use Rattle.thin_block.specs.Cost.{Cost, add_moves}
use Rattle.thin_block.specs.Slots.{filled_slots, write_slots}
use Rattle.thin_vec.specs.Cheap.{IsCheap}
use Rattle.thin_vec.specs.ThinVec.{ListView, cost_after_resize, cost_of_new}

module _ {T : Type 0} (clones : T → T → Type 0) where
  -- `ClonesEqual clones` states that every clone of every value of the type `T` equals this value.
  -- It is a statement about the type, not only about the items of one call. It holds for numbers.
  abbrev pub ClonesEqual : Type 0
  ClonesEqual = (x y : T) → clones x y → y ≡ x

  -- `WritesClones sources n i s s'` states that writing clones of the first `n` items of `sources`
  -- into the slots `s`, from index `i` onward, results in the slots `s'`.
  pub record WritesClones (sources : List T) (n i : ℕ) (s s' : List (Option T)) : Type 0 where
    pub copies : List T
    pub cloned : AllZip clones (take n sources) copies
    pub slots : s' ≡ write_slots i (filled_slots copies) s

  -- `IsClonedList v w` holds if the list `w` is a clone of the list `v`, with the same allocator.
  -- The capacity of `w` is its length, and its cost includes one move for each item.
  pub record IsClonedList {A : Type 0} (v w : ListView T A) : Type 0 where
    pub items : AllZip clones v.items w.items
    pub len : length w.items ≡ length v.items
    pub capacity : w.capacity ≡ length v.items
    pub alloc : w.alloc ≡ v.alloc
    pub cost : w.cost ≡ add_moves (length v.items) (cost_of_new (length v.items))
    pub cheap : IsCheap w
    -- This is a part of `IsBounded`. Its field `fits` would need a description of the item type.
    pub small : w.capacity < 2 ^ 63

-- `AppendsRepeats clones x n xs ys` states that the list `ys` consists of the items of `xs`,
-- followed by `n` clones of `x`. The parameter `clones` says which items are clones of `x`.
pub record AppendsRepeats {T : Type 0} (clones : T → T → Type 0) (x : T) (n : ℕ)
    (xs ys : List T) : Type 0 where
  pub copies : List T
  pub cloned : All (clones x) copies
  pub count : length copies ≡ n
  pub items : ys ≡ xs ++ copies

-- `IsResized clones xs n x ys` holds if resizing the list `xs` to length `n` may result in `ys`.
-- The new items, if any, are clones of `x`, followed by `x` itself. The relation `clones` says what
-- a clone is.
pub record IsResized {T : Type 0} (clones : T → T → Type 0) (xs : List T) (n : ℕ) (x : T)
    (ys : List T) : Type 0 where
  pub shorter : n ≤ length xs → ys ≡ take n xs
  pub longer : length xs < n → (copies : List T) × All (clones x) copies
      × (ys ≡ xs ++ (copies ++ x ∷ []))
  pub len : length ys ≡ n

-- `FailsAtClone infallible sources before after` describes a call that cloned items of `sources` in
-- order, until a clone failed. The recorded cost was `before` when the first clone was made, and is
-- `after` at the end of the call. `infallible x` states that cloning `x` cannot fail.
pub record FailsAtClone {T : Type 0} (infallible : T → Type 0) (sources : List T)
    (before after : Cost) : Type 0 where
  -- The index of the item whose clone failed. (For an unknown type, only a failed clone can show
  -- that an item is fallible.)
  pub at : ℕ
  pub in_bounds : at < length sources
  pub fallible : HoldsAt (λ x. ¬ (infallible x)) sources at
  -- Each clone that was made counts as one move, although it was dropped again.
  pub cost : after ≡ add_moves at before

-- `LeftByFailedClone wanted infallible sources v w` describes a call that reserved room in the list
-- `v`, cloned items of `sources` in order until a clone failed, and dropped the clones again. It
-- left the list `w`. The option `wanted` is the capacity that the growth rule chooses, or `None` if
-- it chooses none. `infallible x` states that cloning `x` cannot fail.
pub record LeftByFailedClone {T A : Type 0} (wanted : Option ℕ) (infallible : T → Type 0)
    (sources : List T) (v w : ListView T A) : Type 0 where
  pub items : w.items ≡ v.items
  pub capacity : wanted ≡ Some w.capacity
  -- The index of the item whose clone failed. (For an unknown type, only a failed clone can show
  -- that an item is fallible.)
  pub at : ℕ
  pub in_bounds : at < length sources
  pub fallible : HoldsAt (λ x. ¬ (infallible x)) sources at
  -- The cost of reserving, and one move for each clone that was made.
  pub cost : w.cost ≡ add_moves at (cost_after_resize v w.capacity)
