-- These definitions are about commands that test the items of a list and remove some of them.
-- Testing an item results in a result. The result says whether the item is kept, and contains the
-- item as it is after the test. (std: `Vec::retain_mut`, `Vec::dedup_by`, `Vec::extract_if`)
use Rattle.std.specs.Prelude.{ℕ, zero, suc, ◌==◌, List, [], ◌∷◌, ◌++◌, Bool, None, Option, Some, drop, false, if◌then◌else◌, not, take, true}
use Rattle.thin_vec.specs.Edits.Retain.{TestResults, flags_of, items_where, moves_of_retain, all_kept}
use Rattle.thin_vec.specs.ThinVec.{ListView}
use Rattle.thin_runner.specs.Env.{Env}
use Rattle.thin_runner.specs.commands.Items.{set_items}
use Rattle.thin_runner.specs.declared.command.Command.{Command}
use Rattle.thin_runner.specs.declared.command.Command.TheVariants.{Retain, RetainMut, Dedup, DedupBy, DedupByKey}

module _ {T J : Type 0} where
  -- `same_key key j later kept` compares the items `later` and `kept` by their keys. The function
  -- `key` computes the key of `later` first, starting with the judge in the state `j`. The result
  -- says whether the keys are equal, and contains both items and the state of the judge after the
  -- calls to `key`.
  abbrev pub same_key : (J → T → ℕ × T × J) → J → T → T → Bool × T × T × J
  same_key key j later kept =
      let a = key j later in let b = key a.2 kept in (a.0 == b.0, a.1, b.1, b.2)

module _ {T J : Type 0} (ask : J → T → Bool × T × J) where
  -- `test_each j xs` is the list of the results for the items `xs` if the function `ask` tests each
  -- of them, in order. The judge is in the state `j` before the first test.
  abbrev pub test_each : J → List T → TestResults T
  test_each j [] = []
  test_each j (x ∷ xs) = let a = ask j x in (a.0, a.1) ∷ test_each a.2 xs

  -- `extract_results j k xs` is the list of the results for the items `xs` after `k` calls to
  -- `next` on an `ExtractIf`. The judge is in the state `j` before the first call. After `k` items
  -- have been extracted, the remaining items are kept without a test.
  abbrev pub extract_results : J → ℕ → List T → TestResults T
  extract_results j zero xs = all_kept xs
  extract_results j (suc k) [] = []
  extract_results j (suc k) (x ∷ xs) =
      let a = ask j x in (not a.0, a.1) ∷ extract_results a.2 (if a.0 then k else suc k) xs

module _ {T J : Type 0} (same : J → T → T → Bool × T × T × J) where
  -- `test_against_last j k xs` describes comparisons of each item of `xs` with the last kept item
  -- before it. The first item is compared with `k`. The judge starts in the state `j`. The result
  -- is a pair: the item `k` as it is after its comparisons, and the list of the results for `xs`.
  abbrev pub test_against_last : J → T → List T → T × TestResults T
  test_against_last j k [] = (k, [])
  test_against_last j k (x ∷ xs) =
      let a = same j x k in let b = test_against_last a.3 (if a.0 then a.2 else a.1) xs in
      if a.0 then (b.0, (false, a.1) ∷ b.1) else (a.2, (true, b.0) ∷ b.1)

  -- `test_pairs j xs` is the list of the results of `dedup_by` on the items `xs`. The first item
  -- is kept. Each other item is compared with the last kept item before it. The judge is in the
  -- state `j` before the first comparison.
  abbrev pub test_pairs : J → List T → TestResults T
  test_pairs j [] = []
  test_pairs j (x ∷ xs) = let b = test_against_last j x xs in (true, b.0) ∷ b.1

module _ {T : Type 0} where
  -- `keep_outside xs a b results` is the list of the results for all items of `xs` if only the
  -- items `a..b` are tested. The list `results` contains the results of these tests. The items
  -- before and after the range are kept.
  abbrev pub keep_outside : List T → ℕ → ℕ → TestResults T → TestResults T
  keep_outside xs a b results = all_kept (take a xs) ++ (results ++ all_kept (drop b xs))

  -- `filtered_list old results` is the list `old` after all its items were tested, and some of them
  -- were removed. Each kept item that is moved to another index counts as one move.
  abbrev pub filtered_list : {A : Type 0} → ListView T A → TestResults T → ListView T A
  filtered_list old results =
      set_items old (items_where true results) (moves_of_retain (flags_of results))

module _ {T A G J : Type 0} (here : Env T A J) where
  -- If the command is `Retain`, `RetainMut`, `Dedup`, `DedupBy` or `DedupByKey`, then
  -- `filter_results xs command` is the list of its results for the items `xs`. For any other
  -- command, it is `None`.
  abbrev pub filter_results : List T → Command T A G → Option (TestResults T)
  filter_results xs Retain =
      Some (test_each (λ j x. let a = here.model.look j x in (a.0, x, a.1)) here.judge xs)
  filter_results xs RetainMut = Some (test_each here.model.keep here.judge xs)
  filter_results xs Dedup =
      Some (test_pairs (λ j later kept. (here.eq later kept, later, kept, j)) here.judge xs)
  filter_results xs DedupBy = Some (test_pairs here.model.same here.judge xs)
  filter_results xs DedupByKey = Some (test_pairs (same_key here.model.key) here.judge xs)
  filter_results xs command = None
