-- If no item is to be removed, all items become front items. Otherwise, the items before the first
-- item to be removed become front items, this item is dropped, and a loop tests the items after it.
use Rattle.std.proofs.Common.{◌≡◌, ◌<◌, [], sym, ap, ◌∙◌, arith, length, length-append, rules, take}
use Rattle.std.proofs.lemmas.Grind.{common_steps}
use Rattle.std.proofs.lemmas.List.{nil_from_length}
use Rattle.thin_vec.proofs.edits.DedupLemmas.{deduped-ends, deduped-goes, dedups-start, dedups-then}
use Rattle.thin_vec.proofs.open_block.PairTestLemmas.{run-left}
use Rattle.thin_vec.proofs.open_block.OpenBlock.dedup_middle.Goals as goal

pub loop-self-init : goal.loop-self-init
loop-self-init g c =
    let run = c.test_pairs-kept in
    let asked = run.ensures.tested in
    let some : 0 < length c.take_first.new.self.front =
    omega (
      arith,
      ap (λ v. length v.front) c.take_first.ensures.changes,
      ap (λ v. length v.front) c.keep_in_place.ensures,
      length-append run.new.self.front (take run.result run.new.self.middle),
      ap length (run-left g.J.PairTest.tests asked),
    ) in
    record {
      dedups = dedups-start g.J.PairTest.tests run.new.test c.take_first.new.self some
          (omega (arith, ap (λ v. v.gap_before) c.take_first.ensures.changes));
      some = some;
      ready = run.ensures.callable;
    }

pub loop-self-preserved : goal.loop-self-preserved
loop-self-preserved g c = record {
  dedups = dedups-then g.J.PairTest.tests c.loop-self.invariant.dedups
      c.dedup_next.ensures.deduped;
  some = c.dedup_next.ensures.has_front;
  ready = c.dedup_next.ensures.callable;
}

pub returns-after-loop-self : goal.returns-after-loop-self
returns-after-loop-self g c =
    let run = c.test_pairs-kept in
    let end : length c.loop-self.self.middle ≡ 0 = grind (arith, common_steps) in
    record {
      deduped = deduped-goes g.J.PairTest.tests c.args.self.now c.take_first.new.self run.result
          c.args.test.now run.new.test run.new.self.middle run.ensures.tested c.take_first.result
          c.loop-self.test c.loop-self.self
          (search rules)
          (sym (ap (λ v. v.middle) c.keep_in_place.ensures) ∙ c.take_first.ensures.middle)
          c.loop-self.invariant.dedups
          (nil_from_length c.loop-self.self.middle end);
    }

pub returns-else-middle_len-gt0 : goal.returns-else-middle_len-gt0
returns-else-middle_len-gt0 g c =
    let run = c.test_pairs-kept in
    let none : c.keep_in_place.new.self.middle ≡ [] =
    nil_from_length c.keep_in_place.new.self.middle
    (omega (arith, c.middle_len.ensures.value, c.if-middle_len-gt0.false)) in
    record {
      deduped = deduped-ends g.J.PairTest.tests c.args.self.now c.keep_in_place.new.self run.result
          c.args.test.now run.new.test run.new.self.middle run.ensures.tested
          (search rules)
          (sym (ap (λ v. v.middle) c.keep_in_place.ensures) ∙ none) none;
    }
