-- The commands taken so far have run, and `replies` has room for the replies to the others.
use Rattle.std.proofs.Common.{◌≤◌, ◌+◌, length, vec_len}
use Rattle.std.specs.Vec.{vec_capacity}
use Rattle.std.specs.Vec.Iter.{into_iter_items}
use Rattle.thin_runner.proofs.RunLemmas.{HasRun}
use denote.Param.{param}
use Rattle.thin_runner.specs.Env.{env}
use Rattle.thin_runner.proofs.runner.run.Given as goal

abbrev pub invariant-loop-command : goal.invariant-loop-command
invariant-loop-command g l = record {
  room : vec_len l.replies + length (into_iter_items l.command-iterator) ≤ vec_capacity l.replies;
  ran : HasRun (env g.T.Clone.is_clone g.T.Clone.is_infallible g.T.PartialEq.eq
      g.J.Judge.model g.G.Growth.rule (param 0 g.row.T) l.fn.alloc l.fn.judge)
      l.fn.list l.fn.commands.items (into_iter_items l.command-iterator) l.fn.replies.items
      l.replies.items l.list;
}
