-- Each iteration of the loop calls `make` and puts the result into the next slot, which is empty.
use Rattle.thin_block.specs.Block.{block_view}
use Rattle.std.proofs.Common.{◌≡◌, [], ◌∷◌, ◌+◌, ◌++◌, ap, arith, drop, of_calls, refl, sym, take, ◌∙◌}
use Rattle.std.proofs.SliceLists.{chained_more}
use Rattle.std.proofs.iter.Next.{called}
use Rattle.std.proofs.lemmas.List.{length_push, take-append-drop}
use Rattle.std.specs.Fn.{Called}
use Rattle.thin_block.specs.Slots.{filled_slots, slot}
use Rattle.thin_block.proofs.SlotsLemmas.{slot-written}
use Rattle.thin_vec.proofs.list.ExtendLemmas.{written-more, put-more, put-none}
use Rattle.thin_vec.proofs.ListBlockLemmas.{length-full}
use Rattle.thin_vec.proofs.put.put_results.Goals as goal

pub loop-i-init : goal.loop-i-init
loop-i-init g c =
    let s = c.args.block.now.slots in
    let start = c.args.start in
    record {
      placed = (
        [],
        sym (ap (λ k. take start s ++ drop k s) (let e : start + 0 ≡ start = omega arith in e)
            ∙ take-append-drop start s),
        refl,
        refl,
      );
      same = put-none (block_view c.args.block.now) 0 refl;
      callable = search of_calls;
    }

pub put-requires-clause-empty : goal.put-requires-clause-empty
put-requires-clause-empty g c =
    let placed = c.loop-i.invariant.placed in
    let s = c.args.block.now.slots in
    let k = c.args.start + c.loop-i.i in
    ap (λ r. slot r k) placed.1
    ∙ (slot-written c.args.start (filled_slots placed.0) s k (omega (arith, c.requires.in_bounds))
    (omega (arith, placed.2, length-full placed.0))
    ∙ c.requires.empty k (omega arith) (omega arith))

pub loop-i-preserved : goal.loop-i-preserved
loop-i-preserved g c =
    let was = c.loop-i.invariant in
    let old = c.args.block.now in
    let i = c.loop-i.i in
    let xs = was.placed.0 in
    let x = c.make.result in
    record {
      placed = (
        xs ++ x ∷ [],
        written-more c.loop-i.block.slots _ old.slots c.args.start (c.args.start + i) xs x
            was.placed.1 (omega (arith, was.placed.2)) (omega (arith, c.requires.in_bounds))
            (ap (λ v. v.slots) c.put.ensures.changes),
        omega (arith, was.placed.2, length_push xs x),
        chained_more (λ f y f'. Called g.F.FnMut f tt y f') c.args.make xs c.loop-i.make x _
            was.placed.3 (called g.F.FnMut c.make.ensures refl),
      );
      same = put-more (block_view old) i (i + 1) refl c.put.ensures.changes was.same;
      callable = search of_calls;
    }

pub returns-clause-slots : goal.returns-clause-slots
returns-clause-slots g c =
    let placed = c.loop-i.invariant.placed in
    (placed.0, c.loop-i.make, omega (arith, placed.2), placed.3, placed.1)
