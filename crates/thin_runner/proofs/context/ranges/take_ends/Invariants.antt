-- `answers` contains the results so far, and has room for those of the remaining steps.
use Rattle.std.proofs.Common.{◌≡◌, ◌++◌, ◌≤◌, ◌+◌, length, vec_len}
use Rattle.std.specs.Vec.{vec_capacity}
use Rattle.std.specs.Vec.Iter.{into_iter_items}
use Rattle.thin_runner.specs.commands.Ranges.{ends_taken}
use Rattle.thin_runner.proofs.context.ranges.take_ends.Given as goal

abbrev pub invariant-loop-step : goal.invariant-loop-step
invariant-loop-step g l = record {
  room : vec_len l.answers + length (into_iter_items l.step-iterator) ≤ vec_capacity l.answers;
  answers : l.answers.items ++ ends_taken (g.E.Ends.rest l.ends) (into_iter_items l.step-iterator)
      ≡ l.fn.answers.items ++ ends_taken (g.E.Ends.rest l.fn.ends) l.fn.steps.items;
  keeps : g.E.Ends.keeps l.fn.ends l.ends;
}
