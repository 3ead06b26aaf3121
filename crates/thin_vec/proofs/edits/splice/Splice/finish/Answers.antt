-- `finish` drops the rest of the range, and then calls `finish_before_tail` or `finish_at_end`.
use Rattle.std.proofs.Common.{Err, Ok, [], ◌≡◌, ◌+◌, ◌<◌, ◌≤◌, ◌++◌, ◌∙◌, ap, arith, length, length-append, subst}
use Rattle.std.specs.Prelude.{IfErr, OnErr, Result}
use denote.Param.{param}
use Rattle.thin_vec.specs.Edits.Finish.{FinishesSplice}
use Rattle.thin_vec.specs.OpenView.{tail_end}
use Rattle.thin_vec.specs.Edits.Splice.{list_without_range, splice_front, splice_iter, splice_list, splice_tail}
use Rattle.thin_block.proofs.CapacityLemmas.{fits-less}
use Rattle.thin_vec.proofs.FinishCostLemmas.{finished-costs, spliced-blocks, spliced-kept}
use Rattle.thin_vec.proofs.edits.FinishLemmas.{finished-moves}
use Rattle.thin_vec.proofs.list.ExtendLemmas.{run-of-ok}
use Rattle.thin_vec.proofs.edits.splice.Splice.finish.Goals.{else-has_tail, then-has_tail}
use Rattle.thin_vec.proofs.edits.splice.Splice.finish.Goals as goal

-- What holds on failure and what holds of the error imply a third fact of the error.
on-err : {X E P : Type 0} {Q S : E → Type 0} (r : Result X E) → (P → (e : E) → Q e → S e)
    → OnErr r P → IfErr r Q → IfErr r S
on-err (Ok _) f p q = q
on-err (Err e) f p q = f p e q

pub returns : goal.returns
unfolding list_without_range
returns g c =
    let rule = g.G.Growth.rule in let T = param 0 g.row.T in
    let steps = g.I.Iterator.next_gives in
    let v = g.H.IntoInner.inner c.args.self.holder in
    let a = (splice_list c.args.self).alloc in
    let s = splice_iter c.args.self in
    let w = c.if-has_tail.list in let r = c.if-has_tail.answer in
    let said : FinishesSplice steps g.I.Iterator.can_next g.I.Iterator.remaining rule T
    c.drop_middle.new.self c.clear.new.self.alloc s w r =
    elim c.if-has_tail.branch [
      | then-has_tail x ↦ rw x.list-is (rw x.answer-is x.finish_before_tail-answer.ensures)
      | else-has_tail x ↦ rw x.list-is (rw x.answer-is x.finish_at_end-answer.ensures)
    ] in
    let dropped = c.drop_middle.ensures
    ∙ (λ i. let h = c.into_inner-block.ensures.value i in
    record h {
      gap_before = h.gap_before + length h.middle + h.gap_after;
      middle = [];
      gap_after = 0;
    }) in
    let f = subst
    (λ b. FinishesSplice steps g.I.Iterator.can_next g.I.Iterator.remaining rule T b a s w r)
    dropped
    (subst
    (λ o. FinishesSplice steps g.I.Iterator.can_next g.I.Iterator.remaining rule T
    c.drop_middle.new.self o s w r) (ap (λ v. v.alloc) c.clear.ensures.changes) said) in
    let le = f.taken.never_less in
    let within = c.len-len.ensures.bounds in
    let left = list_without_range c.args.self in
    let room : length left.items + (v.gap_before + length v.middle + v.gap_after) ≤ left.capacity =
    omega (
      arith,
      subst (λ b. tail_end b ≤ b.capacity) dropped c.has_tail.ensures.in_bounds,
      length-append v.front v.tail,
    ) in
    let costs = finished-costs rule T (splice_tail c.args.self) _ left w
    (g.I.Iterator.remaining s) g.met.G.Growth.law f.at_end
    (λ some. ((f.before_tail some).0, (f.before_tail some).1)) room f.longer in
    record {
      items = f.items;
      runs = run-of-ok steps s
          (λ xs. w.items ≡ (splice_front c.args.self ++ xs) ++ splice_tail c.args.self) r f.items;
      succeeds = f.succeeds;
      succeeds_at_end = f.succeeds_at_end;
      had_room = λ fit.
          let same = f.taken.had_room fit in
          (same, f.taken.kept same);
      range_room = room;
      placed = f.placed;
      cause = f.cause;
      held_at_end = f.held_at_end;
      in_hand_at_end = f.in_hand_at_end;
      capacity_before_tail = λ some.
          let after = f.before_tail some in
          on-err r (λ full e long held none. spliced-kept rule T g.met.G.Growth.law _ _ left after.0
          w (g.I.Iterator.remaining s) after.1 room (omega (arith, full, long held none))
          (omega (arith, long held none))) after.2 (f.in_hand_before_tail some);
      in_hand_before_tail = f.in_hand_before_tail;
      at_end = f.at_end;
      before_tail = f.before_tail;
      moves_within_range = λ few. finished-moves rule T (splice_tail c.args.self) _ left w
          (g.I.Iterator.remaining s) g.met.G.Growth.law f.at_end
          (λ some. ((f.before_tail some).0, (f.before_tail some).1)) f.longer within.room
          (f.taken.had_room (omega (arith, room, few))) c.requires.finite few;
      copied_at_most = costs.copied;
      blocks_at_most = λ some.
          let after = f.before_tail some in
          spliced-blocks rule T _ _ left after.0 w (g.I.Iterator.remaining s) after.1;
      moves_at_end = λ none. omega (arith, ap length none, costs.least, costs.moves);
      moves_at_most = costs.moves;
      preserved = record {
        alloc = f.taken.alloc;
        never_less = le;
        cheap = f.taken.cheap;
        within = (
          record {
            room = omega (arith, room);
            small = omega (arith, within.small, le);
            fits = fits-less T v.capacity w.capacity within.fits le;
          },
          within,
        );
      };
    }
