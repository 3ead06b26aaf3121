-- The main theorem, `Headline`, states what is known about a list after any sequence of commands.
-- It holds for every item type, every allocator, every growth rule and every judge. (A judge is a
-- value that makes decisions about items.)
use Rattle.std.specs.Prelude.{◌≡◌, ◌⊎◌, ◌+◌, ◌*◌, ◌<◌, ◌≤◌, List, ◌++◌, All, fold, map, max, scan}
use Rattle.thin_vec.specs.Cheap.{IsCheap}
use Rattle.thin_vec.specs.List.Clones.{ClonesEqual}
use Rattle.thin_vec.specs.Growth.{doubling}
use Rattle.thin_vec.specs.ThinVec.{IsNew, IsBounded, ListView}
use Rattle.thin_runner.specs.Env.{Env}
use Rattle.thin_runner.specs.Plain.{items_after, reply_to, observed}
use Rattle.thin_runner.specs.Replies.{IsGranted}
use Rattle.thin_runner.specs.Run.{IsPushOrPop, KeepsCheap, MakesNoClone, Runs, successful_pushes, peak, run_may_move}
use Rattle.thin_runner.specs.declared.command.Command.{Command}
use Rattle.thin_runner.specs.declared.command.Reply.{Reply}

module _ {T A G J : Type 0} (here : Env T A J) where
  -- `Headline` states the main theorem about a run of `commands` that turned the list `old` into
  -- `new`. The list `after` contains the replies that were in the list `before`, followed by the
  -- replies of the run.
  pub record Headline (old : ListView T A) (commands : List (Command T A G))
      (before after : List (Reply T A G)) (new : ListView T A) : Type 0 where
    -- The replies to the commands of the run, without the earlier replies in `before`.
    pub replies : List (Reply T A G)
    pub appended : after ≡ before ++ replies
    -- Suppose that no command clones, or that each clone equals its source. Suppose also that no
    -- call failed. Then the final items of the list are the result of applying `items_after` for
    -- each command, in order. The function `reply_to` computes the part of each reply that
    -- `observed` extracts.
    pub plain : All MakesNoClone commands ⊎ ClonesEqual here.clones → All IsGranted replies
        → (new.items ≡ fold (items_after here) old.items commands)
        × (map observed replies ≡ scan (items_after here) (reply_to here) old.items commands)
    -- The predicate `Runs` holds for this run, even if calls failed. `Runs` states which replies
    -- are possible, and which items, capacity and cost the list `new` may have.
    pub allowed : Runs here old commands replies new
    -- The items of the list `new` fit into its capacity. An allocation with this capacity does not
    -- exceed the size limit for allocations.
    pub within : IsBounded here.R new
    -- If no command is `ReserveExact` or `ShrinkToFit`, then a list that was cheap (`IsCheap`)
    -- before the run is also cheap after it. A list is cheap if growing it has cost little. Every
    -- new list is cheap.
    pub stays_cheap : All KeepsCheap commands → IsCheap old → IsCheap new
    -- If no command is `ReserveExact` or `ShrinkToFit`, then the number of items that growth copied
    -- during the run is at most the increase of the capacity. This holds even if the old list was
    -- not cheap.
    pub copied : All KeepsCheap commands
        → new.cost.grown + old.capacity ≤ old.cost.grown + new.capacity
    -- Suppose that the list was new before the run, and that all commands are pushes and pops. If
    -- `m` pushes succeeded, and `m` is at least 1, then growth has copied fewer than `2 * m` items.
    pub amortised : All IsPushOrPop commands → IsNew old old.alloc
        → 0 < successful_pushes commands replies
        → new.cost.grown < 2 * successful_pushes commands replies
    -- If the growth rule is `Doubling`, and all commands are pushes and pops, then the capacity
    -- after the run is at most the largest of 4, the capacity before the run, and twice the
    -- greatest length during the run.
    pub slack : here.rule ≡ doubling → All IsPushOrPop commands
        → new.capacity
        ≤ max old.capacity (max 4 (2 * peak here old new commands replies allowed))
    -- For each command, `may_move` is an upper bound on the number of items that the command moves.
    -- The number of items that the run moved is at most the sum of these bounds. Items that growth
    -- copied are not counted.
    pub moves : new.cost.moves
        ≤ old.cost.moves + run_may_move here old new commands replies allowed
