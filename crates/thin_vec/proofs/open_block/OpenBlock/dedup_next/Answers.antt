-- The clause `deduped` holds in each of three cases: the first item is removed, or it is kept and
-- the next one is removed or there is none, or it is kept with at least one more item.
use Rattle.std.proofs.Common.{◌≡◌, ◌∙◌, [], ◌∷◌, ap, drop, refl, rules, sym}
use Rattle.std.proofs.lemmas.List.{nil_from_length}
use Rattle.thin_vec.proofs.edits.DedupLemmas.{dedups-goes, dedups-one, dedups-run}
use Rattle.thin_vec.proofs.open_block.OpenBlock.dedup_next.Goals as goal

-- The first item is removed.
pub returns-then-not-test_last-clause-deduped : goal.returns-then-not-test_last-clause-deduped
returns-then-not-test_last-clause-deduped g c =
    dedups-goes g.J.PairTest.tests c.args.self.now c.test_last.new.self
    c.take_first-later.result c.test_last.new.later c.test_last.new.self.front
    (rw (c.if-not-test_last.true, ap (λ v. v.front) c.take_first-later.ensures.changes)
    at c.test_last.ensures.tested)
    (search rules) (search rules) (search rules)

-- The first item is kept, and no item follows it.
pub returns-then-middle_len-eq0-clause-deduped : goal.returns-then-middle_len-eq0-clause-deduped
returns-then-middle_len-eq0-clause-deduped g c =
    let first = c.take_first-later in
    let none : first.new.self.middle ≡ [] =
    sym (ap (λ v. v.middle) c.test_last.ensures.changes)
    ∙ nil_from_length c.test_last.new.self.middle
    (sym c.middle_len.ensures.value ∙ c.if-middle_len-eq0.true) in
    dedups-one g.J.PairTest.tests c.args.self.now c.append_to_front.new.self first.result
    c.test_last.new.later c.test_last.new.later c.test_last.new.self.front
    (rw (c.if-not-test_last.false, ap (λ v. v.front) c.take_first-later.ensures.changes)
    at c.test_last.ensures.tested) [] []
    (refl, refl, refl, refl) (first.ensures.middle ∙ ap (λ l. first.result ∷ l) none)
    (ap (λ v. v.middle) c.append_to_front.ensures
    ∙ (ap (λ v. v.middle) c.test_last.ensures.changes ∙ none))
    (search rules) (search rules)

-- The first item is kept, and the second item is removed.
pub returns-then-not-stays-clause-deduped : goal.returns-then-not-stays-clause-deduped
returns-then-not-stays-clause-deduped g c =
    let next = c.test_next-stays in
    dedups-one g.J.PairTest.tests c.args.self.now c.take_first.new.self c.take_first-later.result
    c.test_last.new.later next.new.kept c.test_last.new.self.front
    (rw (c.if-not-test_last.false, ap (λ v. v.front) c.take_first-later.ensures.changes)
    at c.test_last.ensures.tested)
    c.test_last.new.self.middle next.new.self.middle
    (rw c.if-not-stays.true at next.ensures.tested)
    (search rules)
    (ap (drop 1) (sym c.take_first.ensures.middle
    ∙ ap (λ v. v.middle) c.append_to_front-2.ensures))
    (search rules) (search rules)

-- The first two items are kept.
pub returns-clause-deduped : goal.returns-clause-deduped
returns-clause-deduped g c =
    let next = c.test_next-stays in
    dedups-run g.J.PairTest.tests c.args.self.now c.drop_first.new.self c.take_first-later.result
    c.test_last.new.later next.new.kept c.test_last.new.self.front
    (rw (c.if-not-test_last.false, ap (λ v. v.front) c.take_first-later.ensures.changes)
    at c.test_last.ensures.tested)
    c.test_last.new.self.middle next.new.self.middle
    (rw c.if-not-stays.false at next.ensures.tested)
    (search rules)
    (rw (ap (λ v. v.middle) c.append_to_front-2.ensures) at c.test_pairs-kept.ensures.tested)
    (ap (λ v. v.middle) c.drop_first.ensures ∙ ap (λ v. drop 1 v.middle) c.move_down.ensures)
    (search rules) (search rules)
