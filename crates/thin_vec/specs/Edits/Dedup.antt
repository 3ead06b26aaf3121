-- These definitions describe methods that remove duplicates from a list. Each item except the first
-- is tested against the last item kept before it. (std: `Vec::dedup_by`)
use Rattle.std.specs.Prelude.{◌≡◌, List, [], ◌∷◌, Bool, true, false, MatchBool, if◌then◌else◌, map, not}
use Rattle.thin_block.specs.Cost.{add_moves}
use Rattle.thin_vec.specs.ThinVec.{ListView}
use Rattle.thin_vec.specs.Edits.Retain.{moves_of_retain}

-- `R s x k b t y l` describes one call of a test, such as the closure of `dedup_by`. The call
-- compares the item `x` with the last kept item `k`, and returns `b`, which is true if `x` is to be
-- removed. (The closure of `retain` returns true for an item to be kept.) The call changes the
-- state of the test from `s` to `t`, the item from `x` to `y`, and the kept item from `k` to `l`.
module _ {S T : Type 0} (R : S → T → T → Bool → S → T → T → Type 0) where
  -- `TestsEachAgainstLast s k xs removed ys t` states that the items of `xs` were tested in order,
  -- each against the last item that was kept before it. For the first item of `xs`, this last kept
  -- item is `k`. The tests returned `removed`, one flag for each item of `xs`, and changed the
  -- state from `s` to `t`. The list `ys` contains `k` and then the kept items, as the tests left
  -- them. (This is std's `DedupsFrom`, with the flags and the last state.)
  abbrev pub TestsEachAgainstLast : S → T → List T → List Bool → List T → S → Type 0
  TestsEachAgainstLast s k [] removed ys t = (removed ≡ []) × (ys ≡ k ∷ []) × (t ≡ s)
  TestsEachAgainstLast s k (x ∷ xs) removed ys t =
      (b : Bool) × (x' : T) × (k' : T) × (u : S) × (later : List Bool) × R s x k b u x' k'
      × (removed ≡ b ∷ later)
      × MatchBool b (TestsEachAgainstLast u k' xs later ys t)
      ((zs : List T) × TestsEachAgainstLast u x' xs later zs t × (ys ≡ k' ∷ zs))

  -- `TestsAllAgainstLast s xs removed ys t` holds if each item of `xs` except the first was tested
  -- against the last item kept before it. The tests returned `removed`, one flag for each item
  -- except the first, and changed the state from `s` to `t`. The list `ys` contains the first item
  -- and then the kept items, as the tests left them.
  abbrev pub TestsAllAgainstLast : S → List T → List Bool → List T → S → Type 0
  TestsAllAgainstLast s [] removed ys t = (removed ≡ []) × (ys ≡ []) × (t ≡ s)
  TestsAllAgainstLast s (x ∷ xs) removed ys t = TestsEachAgainstLast s x xs removed ys t

  -- `IsDedupedBy s v w` holds if removing the duplicates turned the list `v` into `w`. The test,
  -- whose state was `s` at first, returned `removed`. The first item has no flag: it stays at its
  -- place, and adds no move.
  pub record IsDedupedBy {A : Type 0} (s : S) (v w : ListView T A) : Type 0 where
    pub removed : List Bool
    pub last : S
    pub calls : TestsAllAgainstLast s v.items removed w.items last
    pub cost : w.cost ≡ add_moves (moves_of_retain (map not removed)) v.cost

module _ {T : Type 0} (E : T → T → Bool) where
  -- `dedup_flags_from k xs` contains one flag for each item of `xs`: true if the item is equal,
  -- under the comparison `E`, to the last item kept before it, and so is removed. The item kept
  -- before `xs` is `k`.
  abbrev pub dedup_flags_from : T → List T → List Bool
  dedup_flags_from k [] = []
  dedup_flags_from k (x ∷ xs) =
      if E x k then true ∷ dedup_flags_from k xs else false ∷ dedup_flags_from x xs

  -- `dedup_flags xs` contains one flag for each item of `xs` except the first: true if the item is
  -- equal, under the comparison `E`, to the last item kept before it, and so is removed.
  abbrev pub dedup_flags : List T → List Bool
  dedup_flags [] = []
  dedup_flags (x ∷ xs) = dedup_flags_from x xs
