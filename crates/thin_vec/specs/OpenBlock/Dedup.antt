-- These definitions describe how duplicates are removed from an open block, as in std's
-- `Vec::dedup_by`. A test decides for each item whether the item duplicates the last kept item.
use Rattle.std.specs.Prelude.{◌≡◌, ℕ, suc, ◌<◌, List, [], ◌∷◌, ◌++◌, Bool, true, false, drop, length, map, not, replicate}
use Rattle.thin_block.specs.Cost.{add_moves}
use Rattle.thin_vec.specs.Edits.Retain.{moves_of_retain, count_true}
use Rattle.thin_vec.specs.Edits.Dedup.{TestsEachAgainstLast, TestsAllAgainstLast}
use Rattle.thin_vec.specs.OpenView.{OpenView}

-- A search for an item to be removed ends with a list of which this item is the first. `found end`
-- has the flag of this item, or none if `end` is empty.
abbrev pub found : {T : Type 0} → List T → List Bool
found [] = []
found (x ∷ xs) = true ∷ []

-- `Differs E` describes a test that keeps the item `x` if and only if `E x k` is false, where `k`
-- is the last kept item. The test changes neither item.
abbrev pub Differs : {S T : Type 0} → (T → T → Bool) → S → T → T → Bool → S → T → T → Type 0
Differs E s x k b t y l = (b ≡ not (E x k)) × (y ≡ x) × (l ≡ k)

-- `R s x k b t y l` describes one call of a test that compares the item `x` with the last kept item
-- `k`. The call returns `b` (`true`: keep `x`), and changes the state of the test from `s` to `t`,
-- the item from `x` to `y`, and the kept item from `k` to `l`. In the definitions below, the tests
-- also change the list from `xs` to `ys`.
module _ {S T : Type 0} (R : S → T → T → Bool → S → T → T → Type 0) where
  -- `Removes s x k b t y l` describes the same call by the opposite answer, which is that of the
  -- closure of `dedup_by`: `b` is true if `x` is to be removed.
  abbrev pub Removes : S → T → T → Bool → S → T → T → Type 0
  Removes s x k b t y l = R s x k (not b) t y l

  -- `TestsNext s k xs b t l ys` states that the first item of the list `xs` was tested against the
  -- kept item `k`. If `xs` is empty, nothing happened, and `b` is false.
  abbrev pub TestsNext : S → T → List T → Bool → S → T → List T → Type 0
  TestsNext s k [] b t l ys = (b ≡ false) × (t ≡ s) × (l ≡ k) × (ys ≡ [])
  TestsNext s k (x ∷ xs) b t l ys = (y : T) × R s x k b t y l × (ys ≡ y ∷ xs)

  -- `TestsPairAt k s xs b t ys` states that the item at index `k` of `xs` was tested against the
  -- item directly before it. If `k` is the length of `xs`, nothing happened, and `b` is false.
  pub record TestsPairAt (k : ℕ) (s : S) (xs : List T) (b : Bool) (t : S)
      (ys : List T) : Type 0 where
    pub before : List T
    pub kept : T
    pub left : T
    pub after : List T
    pub end : List T
    pub place : suc (length before) ≡ k
    pub was : xs ≡ before ++ kept ∷ after
    pub asked : TestsNext s kept after b t left end
    pub now : ys ≡ before ++ left ∷ end

  -- `TestsLast s x xs b t y ys` states that the item `x` was tested against the last item of the
  -- list `xs`.
  pub record TestsLast (s : S) (x : T) (xs : List T) (b : Bool) (t : S) (y : T)
      (ys : List T) : Type 0 where
    pub before : List T
    pub kept : T
    pub kept_left : T
    pub was : xs ≡ before ++ kept ∷ []
    pub asked : R s x kept b t y kept_left
    pub now : ys ≡ before ++ kept_left ∷ []

  -- `TestsPairsUpTo m s xs t ys` describes a search for the first item of the list `xs` that is to
  -- be removed. The items were tested in order, from the second item onward, each against the item
  -- directly before it. `m` is the index of the item that the search found, or the length of `xs`
  -- if it found none. The list `end` has the items from that index onward, as the tests left them.
  -- All but its first item are untested.
  pub record TestsPairsUpTo (m : ℕ) (s : S) (xs : List T) (t : S) (ys : List T) : Type 0 where
    pub first : T
    pub done : List T
    pub kept : List T
    pub end : List T
    pub more : ℕ
    pub was : xs ≡ first ∷ (done ++ drop 1 end)
    pub asked : TestsEachAgainstLast Removes s first done (replicate more false ++ found end) kept t
    pub count : suc more ≡ m
    pub reached : length kept ≡ m
    pub now : ys ≡ kept ++ end

  -- `DedupsSome s v t w` holds if testing some or all middle items of the open block `v` for
  -- duplicates turned `v` into `w`. The kept items were appended to the front items, and the other
  -- tested items were removed.
  pub record DedupsSome {A : Type 0} (s : S) (v : OpenView T A) (t : S)
      (w : OpenView T A) : Type 0 where
    pub before : List T
    pub first : T
    pub done : List T
    pub removed : List Bool
    pub kept : List T
    pub was : v.front ≡ before ++ first ∷ []
    pub middle : v.middle ≡ done ++ w.middle
    pub asked : TestsEachAgainstLast Removes s first done removed kept t
    pub gap_before : 0 < w.gap_before
    pub now : w ≡ record v {
      front = before ++ kept;
      gap_before = w.gap_before;
      middle = w.middle;
      cost = add_moves (count_true (map not removed)) v.cost;
    }

  -- `DedupsMiddle s v t w` holds if removing all duplicates among the middle items of an open block
  -- turned the block `v` into `w`. The kept items form the front of `w`.
  pub record DedupsMiddle {A : Type 0} (s : S) (v : OpenView T A) (t : S)
      (w : OpenView T A) : Type 0 where
    pub removed : List Bool
    pub asked : TestsAllAgainstLast Removes s v.middle removed w.front t
    pub now : w ≡ record v {
      front = w.front;
      gap_before = w.gap_before;
      middle = [];
      cost = add_moves (moves_of_retain (map not removed)) v.cost;
    }
