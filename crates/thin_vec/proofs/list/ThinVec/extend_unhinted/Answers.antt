-- In each iteration of the loop, `fill_spare` moves items of the iterator into the empty slots of
-- the list. If the iterator has not ended, one more item is pushed.
use Rattle.std.proofs.Common.{◌≡◌, ◌++◌, ◌∷◌, [], ◌+◌, ◌-◌, ◌∙◌, ap, arith, append_assoc, length, length-append, refl, subst, sym}
use Rattle.std.proofs.lemmas.List.{append-nil, length_push}
use Rattle.std.specs.Iterator.{Yields}
use denote.Param.{param}
use Rattle.thin_block.specs.Cost.{add_moves}
use Rattle.thin_vec.specs.List.Capacity.{FailsForRoom, PreservesList}
use Rattle.thin_vec.specs.List.Extend.{IsAfterPushes}
use Rattle.thin_vec.specs.Put.{YieldsThenMayEnd}
use Rattle.thin_vec.proofs.list.ExtendLemmas.{spare-kept, yields-join, yields-more}
use Rattle.thin_vec.proofs.PushesLemmas.{after-filled, after-none, after-pushed}
use Rattle.thin_vec.proofs.list.ReservesLemmas.{keeps-join}
use Rattle.thin_vec.proofs.list.ThinVec.extend_unhinted.Goals.{After-fill_spare-left, Else-ended}
use Rattle.thin_vec.proofs.list.ThinVec.extend_unhinted.Goals as goal

appended : (g : _) (c : After-fill_spare-left g) → c.fill_spare-left.new.self.items
    ≡ c.args.self.now.items
    ++ (c.loop-rest.invariant.placed.0 ++ c.fill_spare-left.ensures.filled_by.0.items)
appended g c =
    let before = c.loop-rest.invariant.placed in
    let filled = c.fill_spare-left.ensures.filled_by in
    ap (λ v. v.items) filled.1 ∙ (ap (λ l. l ++ filled.0.items) before.1
    ∙ append_assoc c.args.self.now.items before.0 filled.0.items)

changed : (g : _) (c : After-fill_spare-left g) → c.fill_spare-left.new.self
    ≡ record c.loop-rest.self {
      items = c.fill_spare-left.new.self.items;
      cost = add_moves (length c.fill_spare-left.new.self.items - length c.loop-rest.self.items)
          c.loop-rest.self.cost;
    }
changed g c = spare-kept _ _ _ c.fill_spare-left.ensures.filled_by.1

longer : (g : _) (c : After-fill_spare-left g) → length c.fill_spare-left.new.self.items
    ≡ length c.loop-rest.self.items + length c.fill_spare-left.ensures.filled_by.0.items
longer g c =
    let filled = c.fill_spare-left.ensures.filled_by in
    ap (λ v. length v.items) filled.1 ∙ length-append c.loop-rest.self.items filled.0.items

-- `fill_spare` moves items into empty slots only.
after : (g : _) (c : After-fill_spare-left g) → IsAfterPushes g.G.Growth.rule (param 0 g.row.T)
    c.args.self.now c.fill_spare-left.new.self
after g c =
    let v = c.args.self.now in let invariant = c.loop-rest.invariant in
    after-filled g.G.Growth.rule (param 0 g.row.T) v c.loop-rest.self c.fill_spare-left.new.self
    invariant.after (omega (arith, ap length invariant.placed.1, length-append v.items invariant.placed.0))
    (omega (arith, longer g c)) c.fill_spare-left.ensures.bounds.1.room
    (ap (λ z. z.capacity) (changed g c)) (ap (λ z. z.cost) (changed g c))

pub returns-then-ended-clause-after : goal.returns-then-ended-clause-after
returns-then-ended-clause-after g c =
    after g (goal.at.returns-then-ended-clause-after g c).After-fill_spare-left

pub returns-in_default-clause-after : goal.returns-in_default-clause-after
returns-in_default-clause-after g c =
    after g (goal.at.returns-in_default-clause-after g c).After-fill_spare-left

pub returns-in-Err-clause-after : goal.returns-in-Err-clause-after
returns-in-Err-clause-after g c =
    rw c.in-Err.ensures.err (after g (goal.at.returns-in-Err-clause-after g c).After-fill_spare-left)

-- If the iterator has not ended, it yielded the appended items, and the list is full.
yielded : (g : _) (c : Else-ended g) → Yields g.I.Iterator.next_gives c.args.iter
    (c.loop-rest.invariant.placed.0 ++ c.fill_spare-left.ensures.filled_by.0.items)
    c.fill_spare-left.result.rest
yielded g c =
    let before = c.loop-rest.invariant.placed in
    let by = c.fill_spare-left.ensures.filled_by.0 in
    yields-join g.I.Iterator.next_gives c.args.iter c.loop-rest.rest c.fill_spare-left.result.rest
    before.0 by.items before.2
    (subst (λ b. YieldsThenMayEnd g.I.Iterator.next_gives c.loop-rest.rest by.items b
    c.fill_spare-left.result.rest) c.if-ended.false by.gave)

full : (g : _) (c : Else-ended g) → length c.fill_spare-left.new.self.items
    ≡ c.fill_spare-left.new.self.capacity
full g c =
    let filled = c.fill_spare-left.ensures.filled_by in
    omega (
      arith,
      filled.0.full c.if-ended.false,
      ap (λ v. length v.items) filled.1,
      length-append c.loop-rest.self.items filled.0.items,
      ap (λ v. v.capacity) filled.1,
    )

pub loop-rest-init : goal.loop-rest-init
loop-rest-init g c =
    let v = c.args.self.now in
    record {
      can = c.requires.can_next;
      finite = c.requires.finite;
      placed = ([], sym (append-nil v.items), refl);
      nearer = omega arith;
      never_less = omega arith;
      had_room = λ _. refl;
      after = after-none g.G.Growth.rule (param 0 g.row.T) v v c.requires.bounds.room refl;
      alloc = refl;
      cheap = λ cheap. cheap;
    }

pub next-requires : goal.next-requires
next-requires g c = (c.fill_spare-left.ensures.filled_by.0.asked c.if-ended.false).0

pub returns-then-ended-clause-items : goal.returns-then-ended-clause-items
returns-then-ended-clause-items g c =
    let steps = g.I.Iterator.next_gives in
    let before = c.loop-rest.invariant.placed in
    let by = c.fill_spare-left.ensures.filled_by.0 in
    let last = subst (λ b. YieldsThenMayEnd steps c.loop-rest.rest by.items b
    c.fill_spare-left.result.rest) c.if-ended.true by.gave in (
      before.0 ++ by.items,
      (
        c.fill_spare-left.result.rest,
        (
          last.0,
          yields-join steps c.args.iter c.loop-rest.rest last.0 before.0 by.items before.2 last.1,
          last.2,
        ),
      ),
      appended g (goal.at.returns-then-ended-clause-items g c).After-fill_spare-left,
    )

pub returns-in_default-clause-items : goal.returns-in_default-clause-items
returns-in_default-clause-items g c =
    let here = goal.at.returns-in_default-clause-items g c in (
      c.loop-rest.invariant.placed.0 ++ c.fill_spare-left.ensures.filled_by.0.items,
      (
        c.next.new.self,
        (c.fill_spare-left.result.rest, yielded g here.Else-ended, c.in_default.ensures.steps),
      ),
      appended g here.After-fill_spare-left,
    )

pub returns-in-Err-clause-placed : goal.returns-in-Err-clause-placed
returns-in-Err-clause-placed g c =
    let here = goal.at.returns-in-Err-clause-placed g c in
    let by = c.fill_spare-left.ensures.filled_by.0 in
    let xs = c.loop-rest.invariant.placed.0 ++ by.items in
    let goes = c.in-Some.ensures.goes.on (by.asked c.if-ended.false).1 in (
      xs,
      ap (λ v. v.items) c.in-Err.ensures.err ∙ appended g here.After-fill_spare-left,
      record {
        gave = rw c.in-Err.ensures.value_returned (yields-more g.I.Iterator.next_gives c.args.iter
            c.fill_spare-left.result.rest c.next.new.self xs c.in-Some.item
            (yielded g here.Else-ended) c.in-Some.ensures.steps);
        can_next = goes.0;
        finite = goes.1;
      },
    )

pub loop-rest-preserved : goal.loop-rest-preserved
loop-rest-preserved g c =
    let here = goal.at.loop-rest-preserved g c in let filled = here.After-fill_spare-left in
    let rule = g.G.Growth.rule in let T = param 0 g.row.T in
    let invariant = c.loop-rest.invariant in
    let by = c.fill_spare-left.ensures.filled_by.0 in
    let xs = invariant.placed.0 ++ by.items in
    let goes = c.in-Some.ensures.goes.on (by.asked c.if-ended.false).1 in
    let nearer = by.nearer c.if-ended.false in
    let v = c.args.self.now in let u = c.loop-rest.self in
    let w = c.fill_spare-left.new.self in let z = c.push.new.self in
    let put = c.in-Ok.ensures in
    let kept = ap (λ y. y.capacity) (changed g filled) in
    let long = ap length put.items ∙ length_push w.items c.in-Some.item in
    let more = longer g filled in
    let all = full g here.Else-ended in
    record {
      can = goes.0;
      finite = goes.1;
      placed = (
        xs ++ c.in-Some.item ∷ [],
        put.items ∙ (ap (λ l. l ++ c.in-Some.item ∷ []) (appended g filled)
            ∙ append_assoc v.items xs (c.in-Some.item ∷ [])),
        yields-more g.I.Iterator.next_gives c.args.iter c.fill_spare-left.result.rest
            c.next.new.self xs c.in-Some.item (yielded g here.Else-ended)
            c.in-Some.ensures.steps,
      );
      nearer = omega (arith, invariant.nearer, nearer, goes.2, more, long);
      never_less = omega (arith, invariant.never_less, put.preserved.never_less, kept);
      had_room = λ fit. let same = invariant.had_room fit in
          put.had_room (omega (arith, fit, invariant.nearer, nearer, goes.2, more, same, kept))
          ∙ (kept ∙ same);
      after = after-pushed rule T v w z (after g filled) all
          (omega (arith, ap length invariant.placed.1, length-append v.items invariant.placed.0, more)) long
          (omega (arith, all, long, put.preserved.within.1.room)) put.capacity put.cost;
      alloc = put.preserved.alloc ∙ (ap (λ y. y.alloc) (changed g filled) ∙ invariant.alloc);
      cheap = λ first. put.preserved.cheap (c.fill_spare-left.ensures.cheap (invariant.cheap first));
    }

pub returns-in-Err-clause-succeeds : goal.returns-in-Err-clause-succeeds
returns-in-Err-clause-succeeds g c = λ fit.
    let filled = (goal.at.returns-in-Err-clause-succeeds g c).After-fill_spare-left in
    let invariant = c.loop-rest.invariant in
    let by = c.fill_spare-left.ensures.filled_by.0 in
    let goes = c.in-Some.ensures.goes.on (by.asked c.if-ended.false).1 in
    c.in-Err.ensures.succeeds
    (omega (
      arith,
      invariant.never_less,
      by.nearer c.if-ended.false,
      longer g filled,
      ap (λ z. z.capacity) (changed g filled),
    ))

pub returns-in-Err-clause-cause : goal.returns-in-Err-clause-cause
returns-in-Err-clause-cause g c =
    subst (λ v. FailsForRoom g.G.Growth.rule (param 0 g.row.T) v 1 c.in-Err.refused.cause)
    (sym c.in-Err.ensures.err) c.in-Err.ensures.cause

kept : (g : _) (c : After-fill_spare-left g) → PreservesList (param 0 g.row.T) c.args.self.now
    c.fill_spare-left.new.self
kept g c =
    let invariant = c.loop-rest.invariant in
    record {
      alloc = ap (λ z. z.alloc) (changed g c) ∙ invariant.alloc;
      never_less = omega (arith, invariant.never_less, ap (λ z. z.capacity) (changed g c));
      cheap = λ first. c.fill_spare-left.ensures.cheap (invariant.cheap first);
      within = (c.requires.bounds, c.fill_spare-left.ensures.bounds.1);
    }

pub returns-then-ended-clause-preserved : goal.returns-then-ended-clause-preserved
returns-then-ended-clause-preserved g c =
    kept g (goal.at.returns-then-ended-clause-preserved g c).After-fill_spare-left

pub returns-in_default-clause-preserved : goal.returns-in_default-clause-preserved
returns-in_default-clause-preserved g c =
    kept g (goal.at.returns-in_default-clause-preserved g c).After-fill_spare-left

pub returns-in-Err-clause-preserved : goal.returns-in-Err-clause-preserved
returns-in-Err-clause-preserved g c =
    keeps-join (kept g (goal.at.returns-in-Err-clause-preserved g c).After-fill_spare-left)
    c.in-Err.ensures.preserved

pub returns-in-Err-clause-err_full : goal.returns-in-Err-clause-err_full
returns-in-Err-clause-err_full g c =
    rw c.in-Err.ensures.err (full g (goal.at.returns-in-Err-clause-err_full g c).Else-ended)
