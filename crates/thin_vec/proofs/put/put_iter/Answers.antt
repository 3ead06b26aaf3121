-- The loop ends when the iterator returns `None` or all slots are full.
use Rattle.thin_block.specs.Block.{block_view}
use Rattle.std.proofs.Common.{◌∷◌, ◌++◌, [], ◌∙◌, arith, ap, sym, ◌+◌, ◌-◌}
use Rattle.std.proofs.lemmas.Bool.{false≢true}
use Rattle.std.proofs.lemmas.List.{length_push}
use Rattle.thin_vec.proofs.list.ExtendLemmas.{written-more, put-more, yields-more}
use Rattle.std.proofs.lemmas.Grind.{common_steps}
use Rattle.thin_vec.proofs.put.put_iter.Goals as goal

pub loop-i-preserved : goal.loop-i-preserved
loop-i-preserved g c =
    let held = c.loop-i.invariant in
    let goes = c.in-Some.ensures.goes.on held.finite in
    let xs = held.placed.0 in
    let x = c.in-Some.item in
    record {
      can = goes.0;
      finite = goes.1;
      placed = (
        xs ++ x ∷ [],
        written-more c.loop-i.block.slots c.put.new.self.slots c.args.block.slots c.args.start
            c.loop-i.i xs x held.placed.1 held.placed.2
            (omega (arith, c.loop-i-test.true, c.requires.in_bounds))
            (ap (λ v. v.slots) c.put.ensures.changes),
        omega (arith, held.placed.2, length_push xs x),
        yields-more g.I.Iterator.next_gives c.args.iter c.loop-i.rest c.next.new.self xs x
            held.placed.3 c.in-Some.ensures.steps,
      );
      within = omega (arith, c.loop-i-test.true);
      same = put-more (block_view c.args.block) _ (c.loop-i.i + 1 - c.args.start)
          (omega (arith, held.placed.2)) c.put.ensures.changes held.same;
      nearer = omega (arith, held.nearer, goes.2);
    }

pub loop-i-init : goal.loop-i-init
loop-i-init g c = grind (arith, common_steps)

pub put-requires-clause-in_bounds : goal.put-requires-clause-in_bounds
put-requires-clause-in_bounds g c = grind (arith, common_steps)

pub returns-in_default-clause-filled_by : goal.returns-in_default-clause-filled_by
returns-in_default-clause-filled_by g c =
    let held = c.loop-i.invariant in (
      record {
        items = held.placed.0;
        gave = search (arith, ◌∙◌);
        full = λ goes. absurd (false≢true (sym goes));
        short = λ _. omega (arith, c.loop-i-test.true, held.placed.2);
        asked = λ goes. absurd (false≢true (sym goes));
        nearer = λ goes. absurd (false≢true (sym goes));
      },
      held.placed.1,
      held.placed.2,
    )

pub returns-clause-filled_by : goal.returns-clause-filled_by
returns-clause-filled_by g c =
    let held = c.loop-i.invariant in (
      record {
        items = held.placed.0;
        gave = held.placed.3;
        full = λ _. omega (arith, held.within, c.loop-i-test.false, held.placed.2);
        short = λ ends. absurd (false≢true ends);
        asked = λ _. (held.can, held.finite);
        nearer = λ _. omega (arith, held.nearer, held.placed.2);
      },
      held.placed.1,
      held.placed.2,
    )
