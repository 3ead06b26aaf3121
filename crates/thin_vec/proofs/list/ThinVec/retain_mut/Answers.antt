-- The test that `retain_mut` passes to `retain_with` calls the closure `keep` once for each item.
use Rattle.std.specs.Fn.{CalledAtMut}
use Rattle.thin_vec.proofs.RetainLemmas.{few-retained, retained-in-turn, retained-moves, retained-through}
use Rattle.thin_vec.proofs.list.ThinVec.retain_mut.Goals as goal

pub returns-clause-retained : goal.returns-clause-retained
returns-clause-retained g c =
    retained-through (CalledAtMut g.F.FnMut) (λ s. s.keep) _ c.args.self.now c.retain_with.new.self
    c.retain_with.ensures.retained

pub returns-clause-filtered : goal.returns-clause-filtered
returns-clause-filtered g c =
    retained-in-turn (CalledAtMut g.F.FnMut) _ c.args.self.now c.retain_with.new.self
    (retained-through (CalledAtMut g.F.FnMut) (λ s. s.keep) _ c.args.self.now
    c.retain_with.new.self c.retain_with.ensures.retained)

pub returns-clause-bound : goal.returns-clause-bound
returns-clause-bound g c =
    few-retained _ _ c.args.self.now c.retain_with.new.self c.retain_with.ensures.retained

pub returns-clause-moves_at_most : goal.returns-clause-moves_at_most
returns-clause-moves_at_most g c =
    retained-moves _ _ c.args.self.now c.retain_with.new.self c.retain_with.ensures.retained
