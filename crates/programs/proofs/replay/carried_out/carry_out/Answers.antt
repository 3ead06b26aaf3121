-- This file proves the contract of `carry_out`, which carries out a single command. The proofs use
-- the fact that a single command gets exactly one reply.
use Rattle.std.proofs.Common.{◌≡◌, [], ◌∷◌, ap, arith, ◌++◌, ◌∙◌}
use Rattle.programs.proofs.RunLemmas.{headline-one, one_reply}
use Rattle.programs.proofs.replay.carried_out.carry_out.Goals as goal

-- The run of a single command produces exactly one reply. So `pop` returns `Some`, and the
-- precondition of `unwrap` holds.
pub unwrap-requires : goal.unwrap-requires
unwrap-requires g c =
    let one : c.push.new.self.items ≡ c.args.command ∷ [] =
    c.in-Ok.ensures.items ∙ ap (λ cs. cs ++ c.args.command ∷ []) c.new-commands.ensures.items in
    c.pop.ensures.variant.1 (omega (
      arith,
      one_reply _ c.args.list.now c.run.new.list c.args.command c.push.new.self.items
          c.new-replies.result.items c.run.new.replies.items one c.new-replies.ensures.items
          c.in-Ok-run.ensures.ok,
    ))

-- The reply that `pop` returns is the only reply of the run. So the main theorem (`Headline`) holds
-- for the single command and this reply.
pub returns-in-Ok-run-clause-ok : goal.returns-in-Ok-run-clause-ok
returns-in-Ok-run-clause-ok g c =
    let one : c.push.new.self.items ≡ c.args.command ∷ [] =
    c.in-Ok.ensures.items ∙ ap (λ cs. cs ++ c.args.command ∷ []) c.new-commands.ensures.items in
    headline-one _ c.args.list.now c.run.new.list c.args.command c.push.new.self.items
    c.new-replies.result.items c.run.new.replies.items one c.new-replies.ensures.items
    c.in-Ok-run.ensures.ok c.pop.new.self.items c.pop.result c.unwrap.result c.pop.ensures.items
    c.unwrap.ensures
