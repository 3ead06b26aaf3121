-- Each iteration carries out the next command and appends its reply. The loop ends when no command
-- is left.
use Rattle.std.proofs.Common.{◌≡◌, ◌∷◌, [], ap, arith, length, rules}
use Rattle.std.specs.Vec.Iter.{into_iter_items}
use Rattle.std.proofs.lemmas.List.{nil_from_length}
use denote.Param.{param}
use Rattle.thin_runner.specs.Env.{env}
use Rattle.thin_runner.proofs.HeadlineLemmas.{headline}
use Rattle.thin_runner.proofs.RunLemmas.{HasRun-none, HasRun-push}
use Rattle.thin_runner.proofs.runner.run.Goals as goal

pub loop-command-init : goal.loop-command-init
loop-command-init g c =
    let items : into_iter_items c.into_iter-command-iterator.result ≡ c.args.commands.items =
    search rules in
    record {
      room = omega (
        arith,
        c.in-Ok.ensures.ok,
        c.reserve.ensures.len,
        ap length items,
        c.len.ensures,
        c.args.commands.ok.0,
      );
      ran = HasRun-none (env g.T.Clone.is_clone g.T.Clone.is_infallible g.T.PartialEq.eq
          g.J.Judge.model g.G.Growth.rule (param 0 g.row.T) c.args.alloc c.args.judge.now)
          c.args.list.now _ _ _ _ items c.reserve.ensures.items;
    }

pub loop-command-preserved : goal.loop-command-preserved
loop-command-preserved g c =
    let next : into_iter_items c.loop-command.command-iterator
    ≡ c.in-Some.command ∷ into_iter_items c.next.new.self = search rules in
    record {
      room = omega (
        arith,
        c.in-Ok-push.ensures.len,
        c.in-Ok-push.ensures.capacity,
        ap length next,
        c.loop-command.invariant.room,
      );
      ran = HasRun-push (env g.T.Clone.is_clone g.T.Clone.is_infallible g.T.PartialEq.eq
          g.J.Judge.model g.G.Growth.rule (param 0 g.row.T) c.args.alloc c.args.judge.now)
          _ _ c.in-Some.command c.step-reply.result c.step-reply.ensures.allowed
          c.loop-command.invariant.ran next c.in-Ok-push.ensures.items;
    }

pub returns-clause-ok : goal.returns-clause-ok
returns-clause-ok g c =
    let left = into_iter_items c.loop-command.command-iterator in
    let none : left ≡ [] = nil_from_length left
    (omega (arith, c.in-None.ensures.steps, c.loop-command.command-iterator.rest.ok)) in
    headline (env g.T.Clone.is_clone g.T.Clone.is_infallible g.T.PartialEq.eq
    g.J.Judge.model g.G.Growth.rule (param 0 g.row.T) c.args.alloc c.args.judge.now)
    g.met.G.Growth.law c.capacity-capacity.ensures.bounds c.capacity-end.ensures.bounds none
    c.loop-command.invariant.ran
