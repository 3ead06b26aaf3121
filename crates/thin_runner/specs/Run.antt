-- These definitions state how a sequence of commands may change a list, which replies the commands
-- may get, and how many items they may move.
use Rattle.std.specs.Prelude.{◌≡◌, ℕ, ◌+◌, ◌-◌, ◌*◌, ◌==◌, List, [], ◌∷◌, None, if◌then◌else◌, length, max, slice_range}
use Rattle.std.specs.Option.{unwrap_or}
use Rattle.thin_vec.specs.ThinVec.{ListView}
use Rattle.thin_runner.specs.Env.{Env}
use Rattle.thin_vec.specs.Edits.Retain.{flags_of, moves_of_retain}
use Rattle.thin_runner.specs.Replies.{not_placed}
use Rattle.thin_runner.specs.Steps.{Steps}
use Rattle.thin_runner.specs.commands.Filters.{filter_results, keep_outside, extract_results}
use Rattle.thin_runner.specs.declared.command.Command.{Command}
use Rattle.thin_runner.specs.declared.command.Command.TheVariants.{Push, Pop, Insert, Remove, SwapRemove, ReserveExact, ShrinkToFit, Resize, ExtendFromSlice, Extend, Append, Clone, Drain, ExtractIf, Splice}
use Rattle.thin_runner.specs.declared.command.Reply.{Reply}
use Rattle.thin_runner.specs.declared.command.Reply.TheVariants.{Answers, Done, Item, OutOfRange, Other, Refused}

module _ {T A G : Type 0} where
  -- `successful_pushes commands replies` is the number of pushes in `commands` that succeeded. The
  -- list `replies` contains the reply to each command.
  abbrev pub successful_pushes : List (Command T A G) → List (Reply T A G) → ℕ
  successful_pushes (Push v ∷ commands) (Done ∷ replies) = 1 + successful_pushes commands replies
  successful_pushes (command ∷ commands) (reply ∷ replies) = successful_pushes commands replies
  successful_pushes commands replies = 0

  -- `IsPushOrPop` holds if the command is a push or a pop.
  abbrev pub IsPushOrPop : Command T A G → Type 0
  IsPushOrPop (Push v) = Unit {0}
  IsPushOrPop Pop = Unit {0}
  IsPushOrPop command = ⊥

  -- `KeepsCheap` holds for every command except `ReserveExact` and `ShrinkToFit`. If a list is
  -- cheap (`IsCheap`), then it is still cheap after a command that satisfies `KeepsCheap`.
  abbrev pub KeepsCheap : Command T A G → Type 0
  KeepsCheap (ReserveExact k) = ⊥
  KeepsCheap ShrinkToFit = ⊥
  KeepsCheap command = Unit {0}

  -- `MakesNoClone` holds for every command except `Resize`, `ExtendFromSlice` and `Clone`, which
  -- clone items or values.
  abbrev pub MakesNoClone : Command T A G → Type 0
  MakesNoClone (Resize k v) = ⊥
  MakesNoClone (ExtendFromSlice ys) = ⊥
  MakesNoClone Clone = ⊥
  MakesNoClone command = Unit {0}

module _ {T A G J : Type 0} (here : Env T A J) where
  -- `Runs old commands replies new` holds if the commands, carried out in order, may turn the list
  -- `old` into `new` and get these replies.
  abbrev pub Runs : ListView T A → List (Command T A G) → List (Reply T A G) → ListView T A → Type 0
  Runs old [] [] new = new ≡ old
  Runs old (command ∷ commands) (reply ∷ replies) new =
      (mid : ListView T A) × (Steps here old command reply mid × Runs mid commands replies new)
  Runs old commands replies new = ⊥

  -- `may_move xs command reply` is an upper bound on the number of items that the command moves.
  -- The command runs on a list with the items `xs`, and its reply is `reply`. Items that growth
  -- copies are not counted. Of the items given to an `Extend` or a `Splice`, those placed are
  -- counted.
  abbrev pub may_move : List T → Command T A G → Reply T A G → ℕ
  may_move xs command (OutOfRange back) = 0
  may_move xs (Push v) Done = 1
  may_move xs (Insert i v) Done = length xs - i + 1
  may_move xs (Remove i) (Item o) = length xs - (i + 1)
  may_move xs (SwapRemove i) (Item o) = if i + 1 == length xs then 0 else 1
  may_move xs (Resize k v) reply = k - length xs
  may_move xs (ExtendFromSlice ys) reply = length ys.items
  may_move xs (Extend ys lower) reply = length ys.items - length (not_placed reply)
  may_move xs (Append given) (Other back None) = length given.items
  may_move xs (Drain a b steps) (Answers answers) = if a == b then 0 else length xs - b
  may_move xs (ExtractIf a b k) (Answers answers) =
      let results = extract_results here.model.take here.judge k (slice_range xs a b) in
      moves_of_retain (flags_of (keep_outside xs a b results))
  may_move xs (Splice a b steps ys lower) (Refused cause) = 0
  may_move xs (Splice a b steps ys lower) reply =
      2 * (length xs - b) + (length ys.items - length (not_placed reply))
  may_move xs command reply =
      moves_of_retain (flags_of (unwrap_or (filter_results here xs command) []))

  -- `run_may_move` is the sum of the bounds `may_move` of all commands of a run. It is an upper
  -- bound on the number of items that the run moves.
  abbrev pub run_may_move : (old new : ListView T A) (commands : List (Command T A G))
      (replies : List (Reply T A G)) → Runs old commands replies new → ℕ
  run_may_move old new (command ∷ commands) (reply ∷ replies) run =
      may_move old.items command reply + run_may_move run.0 new commands replies run.1.1
  run_may_move old new commands replies run = 0

  -- `peak` is the greatest length of the list before, during and after a run.
  abbrev pub peak : (old new : ListView T A) (commands : List (Command T A G))
      (replies : List (Reply T A G)) → Runs old commands replies new → ℕ
  peak old new (command ∷ commands) (reply ∷ replies) run =
      max (length old.items) (peak run.0 new commands replies run.1.1)
  peak old new commands replies run = length old.items
