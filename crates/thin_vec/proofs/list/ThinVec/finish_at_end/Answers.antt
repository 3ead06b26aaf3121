-- `close` leaves only the items before the range, and `extend` appends the items of the iterator.
use Rattle.std.proofs.Common.{◌≡◌, ◌++◌, ◌∙◌, ℕ, ap, arith, length, length-append, subst, sym}
use Rattle.std.specs.Iterator.{size}
use Rattle.std.specs.Iterator.SizeHint.{IsWithinCount}
use Rattle.std.specs.Prelude.{MatchOption}
use denote.Param.{param}
use Rattle.thin_vec.specs.Edits.Finish.{AddsFromIter, without_middle}
use Rattle.thin_vec.specs.List.Extend.{IsAfterExtend}
use Rattle.thin_vec.specs.ThinVec.{HasRoomFor}
use Rattle.thin_vec.proofs.edits.SpliceLemmas.{after-items, closed-left, stop-at-end, stopped-now}
use Rattle.thin_vec.proofs.ExtendCostLemmas.{extended-costs}
use Rattle.thin_vec.proofs.list.ExtendLemmas.{placed-longer}
use Rattle.thin_vec.proofs.edits.FinishLemmas.{finished-ok}
use Rattle.thin_vec.specs.declared.errors.SpliceRefused.{SpliceRefused}
use Rattle.thin_vec.proofs.list.ThinVec.finish_at_end.Goals.{After-extend}
use Rattle.thin_vec.proofs.list.ThinVec.finish_at_end.Goals as goal

left : (g : _) (c : After-extend g)
    → c.close.new.self ≡ without_middle c.args.block c.args.self.now.alloc
left g c =
    c.close.ensures.changes
    ∙ closed-left c.args.block c.args.self.now c.requires.no_middle c.requires.no_tail

taken : (g : _) (c : After-extend g)
    → AddsFromIter (without_middle c.args.block c.args.self.now.alloc) c.extend.new.self
    (g.I.Iterator.remaining c.args.iter)
taken g c =
    let w = c.extend.new.self in let more = g.I.Iterator.remaining c.args.iter in
    let e = c.extend.ensures in
    let costs = extended-costs g.G.Growth.rule (param 0 g.row.T) g.met.G.Growth.law c.close.new.self w
    e.capacity.0 e.preserved.within.0.room (placed-longer _ _ c.extend.result _ _ e.items e.placed)
    e.capacity.2 in
    let now : AddsFromIter c.close.new.self w more = record {
      never_less = e.preserved.never_less;
      had_room = e.had_room;
      kept = λ same. (costs.inserting.kept same).0;
      alloc = e.preserved.alloc;
      cheap = e.preserved.cheap;
    } in
    subst (λ z. AddsFromIter z w more) (left g c) now

after : (g : _) (c : After-extend g)
    → (h : ℕ) × IsWithinCount h (g.I.Iterator.remaining c.args.iter)
    × IsAfterExtend g.G.Growth.rule (param 0 g.row.T)
    (without_middle c.args.block c.args.self.now.alloc) h c.extend.new.self
after g c =
    subst (λ z. (h : ℕ) × IsWithinCount h (g.I.Iterator.remaining c.args.iter)
    × IsAfterExtend g.G.Growth.rule (param 0 g.row.T) z h c.extend.new.self) (left g c)
    c.extend.ensures.capacity

pub returns-in-Ok : goal.returns-in-Ok
returns-in-Ok g c =
    let v = c.args.block in let gave = c.in-Ok.ensures.items in
    let at = (goal.at.returns-in-Ok g c).After-extend in
    finished-ok v c.args.self.now.alloc c.args.iter c.extend.new.self tt (
      gave.0,
      gave.1,
      gave.2 ∙ (ap (λ z. z.items ++ gave.0) (left g at)
          ∙ after-items v gave.0 c.requires.no_tail),
    )
    (taken g at) (λ _. after g at)
    (λ some. absurd (omega (arith, some, ap length c.requires.no_tail)))

pub returns-in-Err : goal.returns-in-Err
returns-in-Err g c =
    let v = c.args.block in let refused = c.in-Err.refused in
    let at = (goal.at.returns-in-Err g c).After-extend in
    let is = left g at in
    let gave = c.in-Err.ensures.placed in let none = c.new-held.ensures.items in
    let error : SpliceRefused _ _ _ =
    record {
      cause = refused.cause;
      held = c.new-held.result;
      in_hand = refused.in_hand;
      rest = refused.rest;
    } in
    record {
      succeeds = λ few. c.in-Err.ensures.succeeds (omega (
        arith,
        ap (λ z. length z.items) is,
        ap (λ z. z.capacity) is,
        length-append v.front v.tail,
      ));
      items = tt;
      longer = omega (
        arith,
        ap length gave.1,
        length-append c.close.new.self.items gave.0,
        ap (λ z. length z.items) is,
      );
      taken = taken g at;
      succeeds_at_end = λ _ fit. c.in-Err.ensures.succeeds
          (subst (λ z. HasRoomFor z (size (g.I.Iterator.remaining c.args.iter))) (sym is) fit);
      at_end = λ _. after g at;
      before_tail = λ some. absurd (omega (arith, some, ap length c.requires.no_tail));
      placed = (
        gave.0,
        gave.1 ∙ (ap (λ z. z.items ++ gave.0) is
            ∙ after-items v gave.0 c.requires.no_tail),
        stopped-now g.I.Iterator.next_gives g.I.Iterator.can_next g.I.Iterator.remaining
            c.args.iter gave.0 error none gave.2,
      );
      cause = stop-at-end g.G.Growth.rule (param 0 g.row.T) c.extend.new.self v.tail
          (g.I.Iterator.remaining refused.rest) error c.requires.no_tail none
          c.in-Err.ensures.cause;
      held_at_end = λ _. none;
      in_hand_at_end = λ _. subst (λ z. MatchOption refused.in_hand
          ((c.extend.new.self ≡ z) × (refused.rest ≡ c.args.iter))
          (λ _. length c.extend.new.self.items ≡ c.extend.new.self.capacity)) is
          c.in-Err.ensures.in_hand;
      in_hand_before_tail = λ some. absurd (omega (arith, some, ap length c.requires.no_tail));
    }
