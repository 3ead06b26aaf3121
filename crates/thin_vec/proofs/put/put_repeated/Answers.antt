-- Each iteration of the loop puts one more clone of `value` into the next slot.
use Rattle.thin_block.specs.Block.{block_view}
use Rattle.thin_vec.proofs.list.ExtendLemmas.{put-more}
use Rattle.std.proofs.Common.{ap, arith, sym, ◌∙◌, refl, ◌+◌}
use Rattle.std.proofs.lemmas.List.{get_or-replicate, length-replicate}
use Rattle.thin_vec.proofs.list.ClonesLemmas.{lays-more}
use Rattle.thin_vec.proofs.put.put_repeated.Goals as goal

pub loop-i-preserved : goal.loop-i-preserved
loop-i-preserved g c =
    let was = c.loop-i.invariant in
    let x = c.args.value.now in
    let many = length-replicate c.args.count x in
    let n = c.loop-i.i in
    record {
      slots = lays-more was.slots c.in-Ok.item (omega arith)
          (omega (arith, c.requires.in_bounds, many))
          (sym (get_or-replicate c.args.count n x x (omega arith)))
          c.in-Ok.ensures.cases (ap (λ v. v.slots) c.put.ensures.changes);
      same = put-more (block_view c.args.block.now) n (n + 1) refl c.put.ensures.changes was.same;
    }

pub returns-clause-slots : goal.returns-clause-slots
returns-clause-slots g c = search (arith, ◌∙◌)
