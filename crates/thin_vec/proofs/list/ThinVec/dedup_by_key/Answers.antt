-- The test that `dedup_by_key` passes to `dedup_with` compares the keys of the two items.
use Rattle.std.specs.Fn.{ComparesKeys}
use Rattle.thin_vec.proofs.edits.DedupLemmas.{deduped-moves, deduped-through, few-deduped}
use Rattle.thin_vec.proofs.EditLemmas.{deduped_deduped}
use Rattle.thin_vec.proofs.list.ThinVec.dedup_by_key.Goals as goal

pub returns-clause-deduped : goal.returns-clause-deduped
returns-clause-deduped g c =
    deduped-through (ComparesKeys g.F.FnMut g.K.PartialEq.eq) (λ s. s.key)
    _ c.args.self.now c.dedup_with.new.self c.dedup_with.ensures.deduped

pub returns-clause-bound : goal.returns-clause-bound
returns-clause-bound g c =
    few-deduped _ _ c.args.self.now c.dedup_with.new.self c.dedup_with.ensures.deduped

pub returns-clause-moves_at_most : goal.returns-clause-moves_at_most
returns-clause-moves_at_most g c =
    deduped-moves _ _ c.args.self.now c.dedup_with.new.self c.dedup_with.ensures.deduped

pub returns-clause-filtered : goal.returns-clause-filtered
returns-clause-filtered g c =
    deduped_deduped (ComparesKeys g.F.FnMut g.K.PartialEq.eq) _ c.args.self.now c.dedup_with.new.self
    (deduped-through (ComparesKeys g.F.FnMut g.K.PartialEq.eq) (λ s. s.key)
    _ c.args.self.now c.dedup_with.new.self c.dedup_with.ensures.deduped)
