-- The test that `dedup_by` passes to `dedup_with` calls the closure `same` exactly once.
use Rattle.std.specs.Fn.{CalledAtPairMut}
use Rattle.thin_vec.proofs.edits.DedupLemmas.{deduped-moves, deduped-through, few-deduped}
use Rattle.thin_vec.proofs.EditLemmas.{deduped_deduped}
use Rattle.thin_vec.proofs.list.ThinVec.dedup_by.Goals as goal

pub returns-clause-deduped : goal.returns-clause-deduped
returns-clause-deduped g c =
    deduped-through (CalledAtPairMut g.F.FnMut) (λ s. s.same)
    _ c.args.self.now c.dedup_with.new.self c.dedup_with.ensures.deduped

pub returns-clause-bound : goal.returns-clause-bound
returns-clause-bound g c =
    few-deduped _ _ c.args.self.now c.dedup_with.new.self c.dedup_with.ensures.deduped

pub returns-clause-moves_at_most : goal.returns-clause-moves_at_most
returns-clause-moves_at_most g c =
    deduped-moves _ _ c.args.self.now c.dedup_with.new.self c.dedup_with.ensures.deduped

pub returns-clause-filtered : goal.returns-clause-filtered
returns-clause-filtered g c =
    deduped_deduped (CalledAtPairMut g.F.FnMut) _ c.args.self.now c.dedup_with.new.self
    (deduped-through (CalledAtPairMut g.F.FnMut) (λ s. s.same)
    _ c.args.self.now c.dedup_with.new.self c.dedup_with.ensures.deduped)
