-- These definitions describe how items that fail a test are removed from an open block, as in std's
-- `Vec::retain_mut`.
use Rattle.std.specs.Prelude.{◌≡◌, ℕ, ◌==◌, List, [], ◌∷◌, ◌++◌, Bool, true, false, if◌then◌else◌, length}
use Rattle.thin_block.specs.Cost.{add_moves}
use Rattle.thin_vec.specs.Edits.Retain.{TestResults, flags_of, items_where, moves_of_retain, all_kept}
use Rattle.thin_vec.specs.OpenView.{OpenView}

-- `R s x b t y` describes one call to a test with the item `x`. The call returns `b` (`true`: keep
-- the item), changes the state of the test from `s` to `t`, and changes the item from `x` to `y`.
-- In the definitions below, the tests also change the list from `xs` to `ys`.
module _ {S T : Type 0} (R : S → T → Bool → S → T → Type 0) where
  -- `TestsInTurn s xs results t` holds if testing each item of `xs` once, in order, gave `results`,
  -- and changed the state of the test from `s` to `t`.
  abbrev pub TestsInTurn : S → List T → TestResults T → S → Type 0
  TestsInTurn s [] results t = (results ≡ []) × (t ≡ s)
  TestsInTurn s (x ∷ xs) results t =
      (b : Bool) × (y : T) × (u : S) × (later : TestResults T) × R s x b u y
      × TestsInTurn u xs later t
      × (results ≡ (b, y) ∷ later)

  -- `TestsFirst s xs b t ys` states that the first item of the list `xs` was tested. If `xs` is
  -- empty, nothing happened, and `b` is false.
  abbrev pub TestsFirst : S → List T → Bool → S → List T → Type 0
  TestsFirst s [] b t ys = (b ≡ false) × (t ≡ s) × (ys ≡ [])
  TestsFirst s (x ∷ xs) b t ys = (y : T) × R s x b t y × (ys ≡ y ∷ xs)

  -- `TestsAt k s xs b t ys` states that the item at index `k` of the list `xs` was tested. If `k`
  -- is the length of `xs`, nothing happened, and `b` is false.
  pub record TestsAt (k : ℕ) (s : S) (xs : List T) (b : Bool) (t : S) (ys : List T) : Type 0 where
    pub before : List T
    pub after : List T
    pub end : List T
    pub place : length before ≡ k
    pub was : xs ≡ before ++ after
    pub asked : TestsFirst s after b t end
    pub now : ys ≡ before ++ end

  -- `TestsUntil s xs kept t end` describes a search in the list `xs` for the first item that fails
  -- the test. The items before it were tested and kept, which turned them into `kept`. The list
  -- `end` has the other items, of which the first, if there is one, failed the test.
  pub record TestsUntil (s : S) (xs kept : List T) (t : S) (end : List T) : Type 0 where
    pub run : List T
    pub after : List T
    pub between : S
    pub was : xs ≡ run ++ after
    pub asked : TestsInTurn s run (all_kept kept) between
    pub stops : TestsFirst between after false t end

  -- `SeeksRemoved s v t w` describes a search in the open block `v` for the next item that fails a
  -- test. The kept items are added to the front. An item that fails the test becomes the first
  -- middle item of `w`.
  pub record SeeksRemoved {A : Type 0} (s : S) (v : OpenView T A) (t : S)
      (w : OpenView T A) : Type 0 where
    pub kept : List T
    pub run : TestsUntil s v.middle kept t w.middle
    pub now : w ≡ record v {
      front = v.front ++ kept;
      middle = w.middle;
      cost = if v.gap_before == 0 then v.cost else add_moves (length kept) v.cost;
    }

  -- `Retains s v t w` holds if testing some or all middle items of the open block `v`, which has no
  -- gap, turned `v` into `w`. The kept items were appended to the front items, and the others were
  -- removed.
  pub record Retains {A : Type 0} (s : S) (v : OpenView T A) (t : S)
      (w : OpenView T A) : Type 0 where
    pub done : List T
    pub results : TestResults T
    pub middle : v.middle ≡ done ++ w.middle
    pub asked : TestsInTurn s done results t
    pub now : w ≡ record v {
      front = v.front ++ items_where true results;
      gap_before = length (items_where false results);
      middle = w.middle;
      cost = add_moves (moves_of_retain (flags_of results)) v.cost;
    }
