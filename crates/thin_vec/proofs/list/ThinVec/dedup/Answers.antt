-- Tests with `==` leave the items that the specification function `dedup` returns.
use Rattle.std.proofs.Common.{ap, ◌∙◌}
use Rattle.std.specs.Prelude.{map, not}
use Rattle.thin_block.specs.Cost.{add_moves}
use Rattle.thin_vec.specs.Edits.Retain.{moves_of_retain}
use Rattle.thin_vec.proofs.edits.DedupLemmas.{deduped-moves, few-deduped, filtered-dedup, pairs-compare}
use Rattle.thin_vec.proofs.list.ThinVec.dedup.Goals as goal

pub returns-clause-items : goal.returns-clause-items
returns-clause-items g c =
    let h = c.dedup_with.ensures.deduped in
    (pairs-compare g.T.PartialEq.eq c.args.self.now.items _ _ h.removed
    c.dedup_with.new.self.items h.calls).1

pub returns-clause-filtered : goal.returns-clause-filtered
returns-clause-filtered g c =
    rw (returns-clause-items g c) (filtered-dedup g.T.PartialEq.eq c.args.self.now.items)

pub returns-clause-cost : goal.returns-clause-cost
returns-clause-cost g c =
    let h = c.dedup_with.ensures.deduped in
    h.cost ∙ ap (λ f. add_moves (moves_of_retain (map not f)) c.args.self.now.cost)
    (pairs-compare g.T.PartialEq.eq c.args.self.now.items _ _ h.removed
    c.dedup_with.new.self.items h.calls).0

pub returns-clause-bound : goal.returns-clause-bound
returns-clause-bound g c =
    few-deduped _ _ c.args.self.now c.dedup_with.new.self c.dedup_with.ensures.deduped

pub returns-clause-moves_at_most : goal.returns-clause-moves_at_most
returns-clause-moves_at_most g c =
    deduped-moves _ _ c.args.self.now c.dedup_with.new.self c.dedup_with.ensures.deduped
