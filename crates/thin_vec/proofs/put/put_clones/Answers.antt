-- The loop can end early only if an item cannot be cloned.
use Rattle.thin_block.specs.Block.{block_view}
use Rattle.thin_vec.proofs.list.ExtendLemmas.{put-more}
use Rattle.std.proofs.lemmas.Grind.{common_steps}
use Rattle.std.proofs.Common.{ap, arith, ◌∙◌, refl, ◌+◌}
use Rattle.thin_vec.proofs.list.ClonesLemmas.{lays-more}
use Rattle.thin_vec.proofs.put.put_clones.Goals as goal

pub loop-i-preserved : goal.loop-i-preserved
loop-i-preserved g c =
    let was = c.loop-i.invariant in
    let n = c.loop-i.i in
    record {
      slots = lays-more was.slots c.in-Ok.item (omega arith) c.requires.in_bounds
          c.index-items-i.is c.in-Ok.ensures.cases (ap (λ v. v.slots) c.put.ensures.changes);
      same = put-more (block_view c.args.block.now) n (n + 1) refl c.put.ensures.changes was.same;
    }

pub returns-clause-slots : goal.returns-clause-slots
returns-clause-slots g c = search (arith, ◌∙◌)

pub returns-in-Err-clause-stopped_at : goal.returns-in-Err-clause-stopped_at
returns-in-Err-clause-stopped_at g c = grind (arith, common_steps)
