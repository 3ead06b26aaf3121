-- `seek_removed` tests items until it reaches the first item to be extracted. `next_picked`
-- removes and returns this item, or returns `None` if there is no such item.
use Rattle.std.proofs.Common.{◌≡◌, ◌∙◌, [], ap, arith, rules, sym}
use Rattle.std.proofs.lemmas.Bool.{false≢true}
use Rattle.std.specs.Fn.{CalledAtMut}
use Rattle.thin_vec.proofs.edits.ExtractIfLemmas.{picked-count, picked-none, picked-some}
use Rattle.thin_vec.proofs.RetainLemmas.{none-left}
use Rattle.thin_vec.proofs.edits.extract_if.ExtractState.next_picked.Goals as goal

pub returns-then-seek_removed-clause-steps : goal.returns-then-seek_removed-clause-steps
returns-then-seek_removed-clause-steps g c =
    let R = CalledAtMut g.F.FnMut in
    let v = c.args.self.now in
    let a = c.seek_removed.ensures.tested in
    let z = c.take_first.new.self in
    let asked = picked-some R (λ s. s.pick) a.run c.take_first.result z.middle
    c.take_first.ensures.middle in
    record {
      kept = a.kept;
      asked = asked;
      count = picked-count R v.picks.pick v.block.middle _ c.seek_removed.new.test.pick a.kept z.middle
          asked;
      front = search rules;
      gap_before = search rules;
      tail = search rules;
      capacity = search rules;
      alloc = search rules;
      cost = search rules;
    }

pub returns-else-seek_removed-clause-steps : goal.returns-else-seek_removed-clause-steps
returns-else-seek_removed-clause-steps g c =
    let R = CalledAtMut g.F.FnMut in
    let v = c.args.self.now in
    let a = c.seek_removed.ensures.tested in
    let w = c.seek_removed.new.self in
    let none : w.middle ≡ [] =
    none-left w.middle
    (λ some. false≢true (sym c.if-seek_removed.false ∙ c.seek_removed.ensures.value.1 some)) in
    let asked = picked-none R (λ s. s.pick) a.run none in
    record {
      kept = a.kept;
      asked = asked;
      count = picked-count R v.picks.pick v.block.middle _ c.seek_removed.new.test.pick a.kept _ asked;
      front = ap (λ u. u.front) a.now;
      gap_before = omega (arith, ap (λ u. u.gap_before) a.now);
      tail = ap (λ u. u.tail) a.now;
      capacity = ap (λ u. u.capacity) a.now;
      alloc = ap (λ u. u.alloc) a.now;
      cost = ap (λ u. u.cost) a.now;
    }
