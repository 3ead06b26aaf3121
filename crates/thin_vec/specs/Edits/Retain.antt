-- These definitions are for methods that test each item of a list and remove the items that fail
-- the test. (std: `Vec::retain`, `Vec::retain_mut`)
use Rattle.std.specs.Prelude.{◌≡◌, ℕ, zero, suc, List, [], ◌∷◌, Bool, true, false, cond, length, map}
use Rattle.std.specs.List.{items_where_true}
use Rattle.std.specs.List.Retain.{ReturnsInTurn}
use Rattle.thin_block.specs.Cost.{add_moves}
use Rattle.thin_vec.specs.ThinVec.{ListView}

-- `count_true flags` is the number of flags in the list `flags` that are true.
abbrev pub count_true : List Bool → ℕ
count_true [] = zero
count_true (true ∷ flags) = suc (count_true flags)
count_true (false ∷ flags) = count_true flags

-- `moves_of_retain kept` is the number of kept items that follow the first removed item. The flags
-- `kept` say for each item whether it is kept.
abbrev pub moves_of_retain : List Bool → ℕ
moves_of_retain [] = zero
moves_of_retain (true ∷ kept) = moves_of_retain kept
moves_of_retain (false ∷ kept) = count_true kept

-- `TestResults T` is the type of lists of results. A result for an item consists of a flag, which
-- is true if the item is kept, and the item as the test left it.
abbrev pub TestResults : Type 0 → Type 0
TestResults T = List (Bool × T)

module _ {T : Type 0} where
  -- `items_where true results` contains the items that `results` marks as kept, and
  -- `items_where false results` contains the others. The items are as the test left them.
  abbrev pub items_where : Bool → TestResults T → List T
  items_where b [] = []
  items_where true ((true, x) ∷ results) = x ∷ items_where true results
  items_where true ((false, x) ∷ results) = items_where true results
  items_where false ((true, x) ∷ results) = items_where false results
  items_where false ((false, x) ∷ results) = x ∷ items_where false results

  -- `all_kept xs` is the list of results of a test that keeps every item. The list `xs` contains
  -- the items as the test left them.
  abbrev pub all_kept : List T → TestResults T
  all_kept xs = map (λ (x : T). (true, x)) xs

  -- `flags_of results` is the list of the flags in `results`, in order. A flag is true if the
  -- item is kept.
  abbrev pub flags_of : TestResults T → List Bool
  flags_of results = map (λ (answer : Bool × T). answer.0) results

-- `R s x b t` describes one call of the closure of `retain`: it is called with the item `x`,
-- returns `b` (true: keep `x`), and changes its state from `s` to `t`.
module _ {S T : Type 0} (R : S → T → Bool → S → Type 0) where
  -- `IsRetained s v w` holds if `retain` turned the list `v` into `w`. The closure, whose state was
  -- `s` at first, was called once for each item of `v`, in order. The calls returned `flags`, and
  -- `w` has the items for which they returned true.
  pub record IsRetained {A : Type 0} (s : S) (v w : ListView T A) : Type 0 where
    pub flags : List Bool
    pub last : S
    pub count : length flags ≡ length v.items
    pub calls : ReturnsInTurn R s flags v.items last
    pub items : w.items ≡ items_where_true flags v.items
    pub cost : w.cost ≡ add_moves (moves_of_retain flags) v.cost

-- `R s x b t y` describes one call of the closure of `retain_mut`, which may also change the item,
-- from `x` to `y`.
module _ {S T : Type 0} (R : S → T → Bool → S → T → Type 0) where
  -- `KeepsInTurn s xs flags ys` holds if the closure, whose state was `s` at first, was called once
  -- for each item of `xs`, in order, and returned `flags`. The list `ys` has the items for which it
  -- returned true, as the calls left them. (This is std's `RetainsInTurn`, with the flags.)
  abbrev pub KeepsInTurn : S → List T → List Bool → List T → Type 0
  KeepsInTurn s [] flags ys = (flags ≡ []) × (ys ≡ [])
  KeepsInTurn s (x ∷ xs) flags ys =
      (b : Bool) × (t : S) × (y : T) × R s x b t y
      × (later : List Bool) × (zs : List T) × KeepsInTurn t xs later zs
      × (flags ≡ b ∷ later) × (ys ≡ cond b (y ∷ zs) zs)

  -- `IsRetainedMut s v w` holds if `retain_mut` turned the list `v` into `w`, with a closure whose
  -- state was `s` at first, and whose calls returned `flags`.
  pub record IsRetainedMut {A : Type 0} (s : S) (v w : ListView T A) : Type 0 where
    pub flags : List Bool
    pub calls : KeepsInTurn s v.items flags w.items
    pub cost : w.cost ≡ add_moves (moves_of_retain flags) v.cost
