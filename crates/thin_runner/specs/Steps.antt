-- `Steps` states how each command may change a list, and which replies it may get. In these
-- definitions, `a - b` is 0 if `a` is less than `b`.
use Rattle.std.specs.Borrow.{RattleType}
use Rattle.std.specs.Prelude.{◌≡◌, Bool, ◌+◌, ◌-◌, ◌==◌, ◌<◌, ◌≤◌, ◌↔◌, List, [], ◌∷◌, ◌++◌, IsSome, MatchOption, None, Some, drop, false, if◌then◌else◌, insert, length, remove, replicate, slice_get, slice_range, slice_set, take}
use Rattle.std.specs.List.{AllZip, AppendsClones, remove_range, swap_remove}
use Rattle.std.specs.Option.{option_to_list}
use Rattle.thin_vec.specs.List.Clones.{IsResized}
use Rattle.thin_vec.specs.Edits.Retain.{items_where}
use Rattle.thin_vec.specs.ThinVec.{ListView, capacity_after_reserve, cost_shrunk, capacity_after_reserve_exact}
use Rattle.thin_vec.specs.declared.ThinVecError.TheVariants.{OutOfMemory}
use Rattle.thin_vec.specs.Growth.{GrowthRule}
use Rattle.thin_runner.specs.Env.{Env, env}
use Rattle.thin_runner.specs.Judge.{CallbackModel}
use Rattle.thin_runner.specs.commands.Items.{ReservesAndSets, Refuses, set_capacity, set_items}
use Rattle.thin_runner.specs.commands.Filters.{filter_results, keep_outside, extract_results, filtered_list}
use Rattle.thin_runner.specs.commands.Many.{RefusesClone}
use Rattle.thin_runner.specs.commands.Ranges.{ends_taken}
use Rattle.thin_runner.specs.commands.Room.{made}
use Rattle.thin_runner.specs.commands.Splices.{Replaces, StopsBetween}
use Rattle.thin_runner.specs.declared.command.Command.{Command}
use Rattle.thin_runner.specs.declared.command.Command.TheVariants.{Push, Pop, Insert, Remove, SwapRemove, Set, Truncate, Clear, Reserve, ReserveExact, ShrinkToFit, Resize, ExtendFromSlice, Extend, Append, SplitOff, Clone, Drain, ExtractIf, Splice}
use Rattle.thin_runner.specs.declared.command.Reply.{Reply}
use Rattle.thin_runner.specs.declared.command.Reply.TheVariants.{Answers, Done, Item, List as Made, Other, Returned, Refused, Stopped, OutOfRange}
use Rattle.thin_runner.specs.declared.command.Step.TheVariants.{Front}

module _ {T A G : Type 0} where
  -- `IsInRange xs command` holds if the index or range of the command is in bounds for the items
  -- `xs`, or if the command has neither. (`in_range` computes it. Both tables stay: with the `Bool`
  -- alone, each bound below would reach a proof through a lemma.)
  abbrev pub IsInRange : List T → Command T A G → Type 0
  IsInRange xs (Insert i v) = i ≤ length xs
  IsInRange xs (Remove i) = i < length xs
  IsInRange xs (SwapRemove i) = i < length xs
  IsInRange xs (Set i v) = i < length xs
  IsInRange xs (SplitOff i) = i ≤ length xs
  IsInRange xs (Drain a b steps) = (a ≤ b) × (b ≤ length xs)
  IsInRange xs (ExtractIf a b k) = (a ≤ b) × (b ≤ length xs)
  IsInRange xs (Splice a b steps ys lower) = (a ≤ b) × (b ≤ length xs)
  IsInRange xs command = Unit {0}

module _ {T A G J : Type 0} (here : Env T A J) where
  -- `Does old command reply new` holds if `command` may turn the list `old` into `new` and return
  -- `reply`. The definition assumes that the index or the range of the command is in bounds.
  abbrev pub Does : ListView T A → Command T A G → Reply T A G → ListView T A → Type 0
  Does old (Push v) Done new = ReservesAndSets here old 1 (old.items ++ v ∷ []) 1 new
  Does old (Push v) (Returned w cause) new =
      (w ≡ v) × Refuses (capacity_after_reserve here.rule here.R old 1) old 1 cause new
  Does old Pop (Item o) new = (IsSome o ↔ (0 < length old.items))
      × (old.items ≡ new.items ++ option_to_list o) × (new ≡ record old { items = new.items })
  Does old (Insert i v) Done new =
      ReservesAndSets here old 1 (insert old.items i v) (length old.items - i + 1) new
  Does old (Insert i v) (Returned w cause) new =
      (w ≡ v) × Refuses (capacity_after_reserve here.rule here.R old 1) old 1 cause new
  Does old (Remove i) (Item (Some x)) new = (slice_get old.items i ≡ Some x)
      × (new ≡ set_items old (remove old.items i) (length old.items - (i + 1)))
  Does old (SwapRemove i) (Item (Some x)) new =
      let m = if i + 1 == length old.items then 0 else 1 in
      (slice_get old.items i ≡ Some x) × (new ≡ set_items old (swap_remove old.items i x) m)
  Does old (Set i v) (Item (Some x)) new =
      (slice_get old.items i ≡ Some x) × (new ≡ record old { items = slice_set old.items i v })
  Does old (Truncate k) Done new = new ≡ record old { items = take k old.items }
  Does old Clear Done new = new ≡ record old { items = [] }
  Does old (Reserve k) Done new =
      (capacity_after_reserve here.rule here.R old k ≡ Some new.capacity)
      × (new ≡ set_capacity old new.capacity)
  Does old (Reserve k) (Refused cause) new =
      Refuses (capacity_after_reserve here.rule here.R old k) old k cause new
  Does old (ReserveExact k) Done new =
      (capacity_after_reserve_exact here.R old k ≡ Some new.capacity)
      × (new ≡ set_capacity old new.capacity)
  Does old (ReserveExact k) (Refused cause) new =
      Refuses (capacity_after_reserve_exact here.R old k) old k cause new
  Does old ShrinkToFit Done new =
      new ≡ record old { capacity = length old.items; cost = cost_shrunk old }
  Does old ShrinkToFit (Refused cause) new = (0 < length old.items)
      × ¬ (length old.items ≡ old.capacity) × (cause ≡ OutOfMemory) × (new ≡ old)
  Does old (Resize k v) Done new = let more = k - length old.items in
      IsResized here.clones old.items k v new.items
      × ReservesAndSets here old more new.items more new
  Does old (Resize k v) (Refused cause) new = let more = k - length old.items in
      (0 < more) × RefusesClone here old more (replicate (more - 1) v) cause new
  Does old (ExtendFromSlice xs) Done new = let more = length xs.items in
      AppendsClones here.clones old.items new.items xs.items
      × ReservesAndSets here old more new.items more new
  Does old (ExtendFromSlice xs) (Refused cause) new = let more = length xs.items in
      (0 < more) × RefusesClone here old more xs.items cause new
  -- A call to `extend` is described as a splice that replaces the empty range at the end of the
  -- list.
  Does old (Extend xs lower) Done new = let end = length old.items in
      Replaces here.rule here.R old end end xs.items (lower + length xs.items) new
  Does old (Extend xs lower) (Stopped answers cause held in_hand rest) new =
      let end = length old.items in (answers.items ≡ [])
      × StopsBetween here.rule here.R old end end xs.items held.items lower cause in_hand rest new
  Does old (Append given) (Other back None) new = let more = length given.items in
      (back ≡ record given { items = [] })
      × ReservesAndSets here old more (old.items ++ given.items) more new
  Does old (Append given) (Other back (Some cause)) new = let more = length given.items in
      (back ≡ given) × Refuses (capacity_after_reserve here.rule here.R old more) old more cause new
  Does old (SplitOff i) (Made out) new =
      (out ≡ made here.alloc (drop i old.items)) × (new ≡ record old { items = take i old.items })
  Does old (SplitOff i) (Refused cause) new =
      (i < length old.items) × (cause ≡ OutOfMemory) × (new ≡ old)
  Does old Clone (Made copy) new = AllZip here.clones old.items copy.items
      × (copy ≡ made here.alloc copy.items) × (new ≡ old)
  Does old Clone (Refused cause) new =
      (0 < length old.items) × (cause ≡ OutOfMemory) × (new ≡ old)
  Does old (Drain a b steps) (Answers answers) new =
      let m = if a == b then 0 else length old.items - b in
      (answers.items ≡ ends_taken (slice_range old.items a b) steps.items)
      × (new ≡ set_items old (remove_range old.items a b) m)
  Does old (Drain a b steps) (Refused cause) new =
      (0 < length steps.items) × (cause ≡ OutOfMemory) × (new ≡ old)
  -- The calls to `next` on the `ExtractIf` return the extracted items in order, and then `None`.
  Does old (ExtractIf a b k) (Answers answers) new =
      let results = extract_results here.model.take here.judge k (slice_range old.items a b) in
      (answers.items ≡ ends_taken (items_where false results) (replicate k Front))
      × (new ≡ filtered_list old (keep_outside old.items a b results))
  Does old (ExtractIf a b k) (Refused cause) new = (0 < k) × (cause ≡ OutOfMemory) × (new ≡ old)
  Does old (Splice a b steps xs lower) (Answers answers) new =
      (answers.items ≡ ends_taken (slice_range old.items a b) steps.items)
      × Replaces here.rule here.R old a b xs.items (lower + length xs.items) new
  Does old (Splice a b steps xs lower) (Stopped answers cause held in_hand rest) new =
      (answers.items ≡ ends_taken (slice_range old.items a b) steps.items)
      × StopsBetween here.rule here.R old a b xs.items held.items lower cause in_hand rest new
  Does old (Splice a b steps xs lower) (Refused cause) new =
      (0 < length steps.items) × (cause ≡ OutOfMemory) × (new ≡ old)
  -- A command that tests the items (`Retain`, `RetainMut`, `Dedup`, `DedupBy` or `DedupByKey`)
  -- leaves only the kept items in the list.
  Does old command Done new =
      MatchOption (filter_results here old.items command) ⊥
      (λ results. new ≡ filtered_list old results)
  Does old command reply new = ⊥

  -- `Steps old command reply new` holds if the command may turn the list `old` into `new` and get
  -- this reply. If the index or the range of the command is out of bounds, the reply is
  -- `OutOfRange` and contains the command, and the list does not change.
  abbrev pub Steps : ListView T A → Command T A G → Reply T A G → ListView T A → Type 0
  Steps old command (OutOfRange back) new =
      (back ≡ command) × ¬ (IsInRange old.items command) × (new ≡ old)
  Steps old command reply new = IsInRange old.items command × Does old command reply new

-- `Allows` is `Steps` with the fields of the environment as parameters.
abbrev pub Allows : {T A G J : Type 0} → (T → T → Type 0) → (T → Type 0) → (T → T → Bool)
    → CallbackModel T J → GrowthRule → RattleType → A → J
    → ListView T A → Command T A G → Reply T A G → ListView T A → Type 0
Allows clones infallible eq model rule R alloc judge =
    Steps (env clones infallible eq model rule R alloc judge)
