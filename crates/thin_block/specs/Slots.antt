-- This file defines functions on lists of slots, like Rust slices of the type `[Option<T>]`. Each
-- slot is empty or contains an item.
use Rattle.std.specs.Prelude.{◌≡◌, ℕ, ◌+◌, ◌-◌, ◌<◌, ◌≤◌, List, [], ◌∷◌, ◌++◌, IsSome, Option, length, map, replicate, slice_index_or, take, drop}
use Rattle.std.specs.declared.option.Option.TheVariants.{Some, None}

module _ {T : Type 0} where
  -- `filled_slots xs` is the list of filled slots that contain the items of `xs`, in order.
  abbrev pub filled_slots : List T → List (Option T)
  filled_slots xs = map Some xs

  -- `empty_slots k` is a list of `k` empty slots.
  abbrev pub empty_slots : ℕ → List (Option T)
  empty_slots k = replicate k None

  -- `slot s i` is the content of slot `i` of `s`. It is `None` if the slot is empty or does not
  -- exist.
  abbrev pub slot : List (Option T) → ℕ → Option T
  slot s i = slice_index_or s i None

  -- `AreFilled s i k` holds if the slots `i..i + k` of `s` are filled.
  abbrev pub AreFilled : List (Option T) → ℕ → ℕ → Type 0
  AreFilled s i k = (j : ℕ) → i ≤ j → j < i + k → IsSome (slot s j)

  -- `AreEmpty s i k` holds if `s` has no item in the slots `i..i + k`.
  abbrev pub AreEmpty : List (Option T) → ℕ → ℕ → Type 0
  AreEmpty s i k = (j : ℕ) → i ≤ j → j < i + k → slot s j ≡ None

  -- `items_in s` is the list of the items in the slots `s`, in order.
  abbrev pub items_in : List (Option T) → List T
  items_in [] = []
  items_in (None ∷ s) = items_in s
  items_in (Some x ∷ s) = x ∷ items_in s

  -- `packed_slots xs c` is a list of `c` slots: the items of `xs`, followed by empty slots. It
  -- requires `length xs ≤ c`.
  abbrev pub packed_slots : List T → ℕ → List (Option T)
  packed_slots xs c = filled_slots xs ++ empty_slots (c - length xs)

  -- `IsPacked s n` holds if the first `n` slots of `s` are filled, and all other slots are empty.
  pub record IsPacked (s : List (Option T)) (n : ℕ) : Type 0 where
    pub slots : s ≡ packed_slots (items_in s) (length s)
    pub len : n ≡ length (items_in s)

  -- `slot_range i k s` is the list of the slots `i..i + k` of `s`.
  abbrev pub slot_range : ℕ → ℕ → List (Option T) → List (Option T)
  slot_range i k s = take k (drop i s)

  -- `write_slots i ys s` is the list `s` after the slots `i..i + length ys` have been replaced with
  -- the slots `ys`.
  abbrev pub write_slots : ℕ → List (Option T) → List (Option T) → List (Option T)
  write_slots i ys s = take i s ++ (ys ++ drop (i + length ys) s)

  -- `clear_slots i k s` is the list `s` after the slots `i..i + k` have been emptied.
  abbrev pub clear_slots : ℕ → ℕ → List (Option T) → List (Option T)
  clear_slots i k s = write_slots i (empty_slots k) s

  -- `move_slots from to k s` is the list of slots `s` after the contents of the `k` slots from
  -- `from` onward have been moved to the `k` slots from `to` onward.
  unfoldable pub move_slots : ℕ → ℕ → ℕ → List (Option T) → List (Option T)
  move_slots from to k s = write_slots to (slot_range from k s) (clear_slots from k s)
