-- These words name the parts of a list as std's words name those of a `Vec`. A proof about a `Vec`
-- that uses them becomes one about a `ThinVec` if it imports them from this file.
use Rattle.std.specs.Prelude.{ℕ, List, ◌++◌, Option, drop, length, slice_set, take}
use Rattle.std.specs.Iterator.{YieldsFirst, YieldsLast}
use Rattle.std.specs.List.{refill}
use Rattle.thin_vec.specs.ThinVec.{ListView}

-- `Vec T A` is the type of the lists in contracts, and `IntoIter T A` that of the iterators that
-- `into_iter` makes of them.
abbrev pub Vec : Type 0 → Type 0 → Type 0
Vec T A = ListView T A

abbrev pub IntoIter : Type 0 → Type 0 → Type 0
IntoIter T A = ListView T A

module _ {T A : Type 0} where
  -- `vec_items v` is the sequence of the items of the list `v`.
  abbrev pub vec_items : ListView T A → List T
  vec_items v = v.items

  -- `vec_len v` is the number of items of the list `v`.
  abbrev pub vec_len : ListView T A → ℕ
  vec_len v = length v.items

  -- `vec_capacity v` is the capacity of the list `v`.
  abbrev pub vec_capacity : ListView T A → ℕ
  vec_capacity v = v.capacity

  -- `vec_allocator v` is the allocator of the list `v`.
  abbrev pub vec_allocator : ListView T A → A
  vec_allocator v = v.alloc

  -- `with_items v ws` is the list `v` after its first items were replaced with the items `ws`. The
  -- length does not change, so items of `ws` beyond the length of `v` are ignored.
  abbrev pub with_items : ListView T A → List T → ListView T A
  with_items v ws = record v { items = refill (length v.items) v.items ws }

  -- `with_items_from v i ws` is the list `v` after its first items from index `i` onward were
  -- replaced with the items `ws`. The length does not change, as in `with_items`.
  abbrev pub with_items_from : ListView T A → ℕ → List T → ListView T A
  with_items_from v i ws = record v {
    items = take i v.items ++ refill (length (drop i v.items)) (drop i v.items) ws;
  }

  -- `with_item v i w` is the list `v` after the item at index `i` was replaced with `w`.
  abbrev pub with_item : ListView T A → ℕ → T → ListView T A
  with_item v i w = record v { items = slice_set v.items i w }

  -- `into_iter_items it` is the sequence of the items that the iterator `it`, made by `into_iter`,
  -- has not yielded yet.
  abbrev pub into_iter_items : ListView T A → List T
  into_iter_items it = it.items

  -- `into_iter_len it` is the number of these items.
  abbrev pub into_iter_len : ListView T A → ℕ
  into_iter_len it = length it.items

  -- `into_iter_steps it item later` holds if a call to `next` returned `item` and changed the
  -- iterator from `it` to `later`: `item` is the first of the items left, or `None` if there was
  -- none.
  abbrev pub into_iter_steps : ListView T A → Option T → ListView T A → Type 0
  into_iter_steps = YieldsFirst into_iter_items

  -- `into_iter_steps_back it item later` is the same for `next_back` and the last of these items.
  abbrev pub into_iter_steps_back : ListView T A → Option T → ListView T A → Type 0
  into_iter_steps_back = YieldsLast into_iter_items
