-- Each iteration of the outer loop reserves room for the item `next` in the vector `held`, which
-- may allocate memory, and pushes the item. Then the inner loop fills the spare capacity of `held`
-- with items of the iterator. If the iterator has not ended then, it yields the item `next` of the
-- following iteration.
use Rattle.std.proofs.Common.{[], ◌++◌, ◌∷◌, ◌∙◌, ap, arith, length, refl}
use Rattle.std.proofs.lemmas.List.{length_push}
use Rattle.thin_vec.proofs.list.ExtendLemmas.{yields-more}
use Rattle.thin_vec.proofs.edits.finish.collect_rest.Goals as goal

pub loop-refused-init : goal.loop-refused-init
loop-refused-init g c = record {
  can = c.requires.can_next;
  finite = c.requires.finite;
  gave = ([], ap (λ l. l ++ c.args.first ∷ []) c.new-held.ensures.items, refl);
  fewer = omega (arith, ap length c.new-held.ensures.items);
}

pub loop-rest-init : goal.loop-rest-init
loop-rest-init g c =
    let before = c.loop-refused.invariant.gave in
    record {
      can = c.loop-refused.invariant.can;
      finite = c.loop-refused.invariant.finite;
      gave = (
        before.0,
        c.push_reserved.ensures.items
            ∙ (ap (λ l. l ++ c.loop-refused.next ∷ []) c.in-Ok.ensures.items ∙ before.1),
        before.2,
      );
      fewer = omega (
        arith,
        ap length c.push_reserved.ensures.items,
        ap length c.in-Ok.ensures.items,
        length_push c.reserve.new.self.items c.loop-refused.next,
      );
      nearer = omega arith;
    }

pub loop-rest-preserved : goal.loop-rest-preserved
loop-rest-preserved g c =
    let l = c.loop-rest in
    let before = l.invariant.gave in
    let one = c.in-Some.item ∷ [] in
    let goes = c.in-Some.ensures.goes.on l.invariant.finite in
    record {
      can = goes.0;
      finite = goes.1;
      gave = (
        before.0 ++ one,
        c.push_reserved-in-loop-rest.ensures.items ∙ ap (λ l. l ++ one) before.1,
        yields-more g.I.Iterator.next_gives c.args.iter l.rest c.next.new.self before.0
            c.in-Some.item before.2 c.in-Some.ensures.steps,
      );
      fewer = omega (
        arith,
        ap length c.push_reserved-in-loop-rest.ensures.items,
        length_push l.held.items c.in-Some.item,
      );
      nearer = omega (arith, l.invariant.nearer, goes.2);
    }

pub loop-refused-preserved : goal.loop-refused-preserved
loop-refused-preserved g c =
    let l = c.loop-rest in
    let before = l.invariant.gave in
    let one = c.in-Some-next.item ∷ [] in
    let goes = c.in-Some-next.ensures.goes.on l.invariant.finite in
    record {
      can = goes.0;
      finite = goes.1;
      gave = (
        before.0 ++ one,
        ap (λ l. l ++ one) before.1,
        yields-more g.I.Iterator.next_gives c.args.iter l.rest c.next-in-loop-refused.new.self
            before.0
            c.in-Some-next.item before.2 c.in-Some-next.ensures.steps,
      );
      fewer = omega (arith, l.invariant.fewer, goes.2);
    }

pub returns-in-Err-clause-runs : goal.returns-in-Err-clause-runs
returns-in-Err-clause-runs g c =
    let before = c.loop-refused.invariant.gave in (
      before.0,
      ap (λ l. l ++ c.loop-refused.next ∷ []) c.in-Err.ensures.items ∙ before.1,
      before.2,
    )

pub returns-in-Err-clause-full : goal.returns-in-Err-clause-full
returns-in-Err-clause-full g c = λ _.
    let e = c.in-Err.ensures in
    let held = c.reserve.new.self in
    omega (arith, e.full, e.err, e.len, held.ok.0, held.ok.1)
