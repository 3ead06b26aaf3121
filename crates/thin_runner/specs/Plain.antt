-- These functions describe commands that do not fail. From the items before a command, they compute
-- the reply and the items after the command.
use Rattle.std.specs.Prelude.{◌-◌, Bool, true, false, ◌&&◌, List, [], ◌∷◌, ◌++◌, Option, None, drop, if◌then◌else◌, insert, length, nat_le, nat_lt, remove, replicate, slice_get, slice_range, slice_set, take}
use Rattle.std.specs.List.{dedup, remove_range, replace_range, swap_remove}
use Rattle.std.specs.Option.{option_map_or, unwrap_or}
use Rattle.thin_vec.specs.Edits.Retain.{items_where}
use Rattle.thin_runner.specs.Env.{Env}
use Rattle.thin_runner.specs.commands.Filters.{filter_results, extract_results}
use Rattle.thin_runner.specs.commands.Ranges.{ends_taken}
use Rattle.thin_runner.specs.commands.Room.{made}
use Rattle.thin_runner.specs.declared.command.Command.{Command}
use Rattle.thin_runner.specs.declared.command.Command.TheVariants.{Push, Pop, Insert, Remove, SwapRemove, Set, Truncate, Clear, Reserve, ReserveExact, ShrinkToFit, Resize, ExtendFromSlice, Extend, Append, SplitOff, Clone, Dedup, Drain, ExtractIf, Splice}
use Rattle.thin_runner.specs.declared.command.Reply.{Reply}
use Rattle.thin_runner.specs.declared.command.Reply.TheVariants.{Answers, Done, Item, List as Made, Other, OutOfRange}
use Rattle.thin_runner.specs.declared.command.Step.TheVariants.{Front}

-- A value of the type `ObservedReply T A G` is the part of a reply that the main theorem
-- determines. For the reply `Answers`, this is the list of the results. For any other reply, it is
-- the whole reply. `T` is the item type, `A` is the allocator type, and `G` is the growth rule.
pub data ObservedReply (T A G : Type 0) : Type 0 where
  says : Reply T A G → ObservedReply T A G
  yields : List (Option T) → ObservedReply T A G

module _ {T A G : Type 0} where
  -- `observed reply` is the part of the reply that the main theorem determines.
  abbrev pub observed : Reply T A G → ObservedReply T A G
  observed (Answers answers) = yields answers.items
  observed reply = says reply

  -- `in_range xs command` is true if the index or range of the command is in bounds for the items
  -- `xs`, or if the command has neither.
  abbrev pub in_range : List T → Command T A G → Bool
  in_range xs (Insert i v) = nat_le i (length xs)
  in_range xs (Remove i) = nat_lt i (length xs)
  in_range xs (SwapRemove i) = nat_lt i (length xs)
  in_range xs (Set i v) = nat_lt i (length xs)
  in_range xs (SplitOff i) = nat_le i (length xs)
  in_range xs (Drain a b steps) = nat_le a b && nat_le b (length xs)
  in_range xs (ExtractIf a b k) = nat_le a b && nat_le b (length xs)
  in_range xs (Splice a b steps ys lower) = nat_le a b && nat_le b (length xs)
  in_range xs command = true

module _ {T A G J : Type 0} (here : Env T A J) where
  -- `reference_step xs command` is a pair: the reply to `command` if it runs on a list with the
  -- items `xs`, and the items of the list afterwards. The reply is a value of the type
  -- `ObservedReply`. The definition assumes that the command does not fail, and that its index or
  -- range is in bounds.
  abbrev pub reference_step : List T → Command T A G → ObservedReply T A G × List T
  reference_step xs (Push v) = (says Done, xs ++ v ∷ [])
  reference_step xs Pop =
      let last = length xs - 1 in (says (Item (slice_get xs last)), take last xs)
  reference_step xs (Insert i v) = (says Done, insert xs i v)
  reference_step xs (Remove i) = (says (Item (slice_get xs i)), remove xs i)
  reference_step xs (SwapRemove i) =
      let item = slice_get xs i in (says (Item item), option_map_or (swap_remove xs i) item xs)
  reference_step xs (Set i v) = (says (Item (slice_get xs i)), slice_set xs i v)
  reference_step xs (Truncate k) = (says Done, take k xs)
  reference_step xs Clear = (says Done, [])
  reference_step xs (Reserve k) = (says Done, xs)
  reference_step xs (ReserveExact k) = (says Done, xs)
  reference_step xs ShrinkToFit = (says Done, xs)
  reference_step xs (Resize k v) = (says Done, take k xs ++ replicate (k - length xs) v)
  reference_step xs (ExtendFromSlice ys) = (says Done, xs ++ ys.items)
  reference_step xs (Extend ys lower) = (says Done, xs ++ ys.items)
  reference_step xs (Append other) =
      (says (Other (record other { items = [] }) None), xs ++ other.items)
  reference_step xs (SplitOff i) = (says (Made (made here.alloc (drop i xs))), take i xs)
  reference_step xs Clone = (says (Made (made here.alloc xs)), xs)
  reference_step xs Dedup = (says Done, dedup here.eq xs)
  reference_step xs (Drain a b steps) =
      (yields (ends_taken (slice_range xs a b) steps.items), remove_range xs a b)
  reference_step xs (ExtractIf a b k) =
      let results = extract_results here.model.take here.judge k (slice_range xs a b) in (
        yields (ends_taken (items_where false results) (replicate k Front)),
        replace_range xs a b (items_where true results),
      )
  reference_step xs (Splice a b steps ys lower) =
      (yields (ends_taken (slice_range xs a b) steps.items), replace_range xs a b ys.items)
  -- This case is about `Retain`, `RetainMut`, `DedupBy` and `DedupByKey`, which test the items and
  -- remove some of them.
  reference_step xs command =
      (says Done, items_where true (unwrap_or (filter_results here xs command) []))

  -- `plain_step xs command` is a pair: the reply to a command that runs on a list with the items
  -- `xs` and does not fail, and the items after this command. The reply is a value of the type
  -- `ObservedReply`. If the index or the range of the command is out of bounds, the reply is
  -- `OutOfRange`, and the items do not change.
  abbrev pub plain_step : List T → Command T A G → ObservedReply T A G × List T
  plain_step xs command =
      if in_range xs command then reference_step xs command else (says (OutOfRange command), xs)

  -- `reply_to xs command` is the reply to `command` if it runs on a list with the items `xs` and
  -- does not fail.
  abbrev pub reply_to : List T → Command T A G → ObservedReply T A G
  reply_to xs command = (plain_step xs command).0

  -- `items_after xs command` is the list of the items after `command` has run, without failing, on
  -- a list with the items `xs`.
  abbrev pub items_after : List T → Command T A G → List T
  items_after xs command = (plain_step xs command).1
