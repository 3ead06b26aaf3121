-- The items of the range are the middle run of one open block, and move into the gap of the other.
use Rattle.std.proofs.Common.{◌∙◌, ap, arith, length, slice_range}
use Rattle.std.proofs.lemmas.List.{length-drop, length-take-le}
use Rattle.thin_vec.proofs.BoundsLemmas.{bounds-like}
use Rattle.thin_vec.proofs.edits.SwapRangeLemmas.{closed-in, closed-out, empty-range, length-range}
use Rattle.thin_vec.proofs.list.ThinVec.move_range_to.Goals as goal

pub widen_gap-requires : goal.widen_gap-requires
widen_gap-requires g c =
    let o = c.open-to.ensures in
    let other = c.args.other.now in
    let none = o.middle ∙ empty-range other.items c.args.at in
    record {
      no_middle = none;
      gap_after = o.gap_after;
      room = omega (
        arith,
        ap length none,
        ap length o.front,
        length-take-le c.args.at other.items c.requires.at_in_bounds,
        ap length o.tail,
        length-drop c.args.at other.items,
        o.gap_before,
        o.gap_after,
        o.capacity,
        c.requires.room,
        c.requires.at_in_bounds,
      );
    }

pub move_middle_to-requires : goal.move_middle_to-requires
move_middle_to-requires g c = record {
  room = omega (
    arith,
    ap length c.open-from.ensures.middle,
    length-range c.args.self.now.items c.args.start c.args.end c.requires.start_le_end
        c.requires.in_bounds,
    ap (λ v. v.gap_before) c.widen_gap.ensures,
    c.open-to.ensures.gap_before,
  );
}

pub returns-clause-changes : goal.returns-clause-changes
returns-clause-changes g c =
    let o = c.open-from.ensures in
    closed-out c.args.self.now c.open-from.new.self c.close-2.new.self c.open-from.result
    c.move_middle_to.new.self c.args.start c.args.end c.requires.start_le_end
    c.requires.in_bounds o.front o.middle o.tail o.gap_before o.gap_after o.capacity o.cost
    o.changes c.move_middle_to.ensures.changes c.close-2.ensures.changes

pub returns-clause-other_changes : goal.returns-clause-other_changes
returns-clause-other_changes g c =
    let from = c.open-from.ensures in
    let o = c.open-to.ensures in
    closed-in c.args.other.now c.open-to.new.self c.close.new.self c.open-to.result
    c.widen_gap.new.self c.move_middle_to.new.other c.args.at c.args.start c.args.end
    c.open-from.result.middle
    (slice_range c.args.self.now.items c.args.start c.args.end) c.requires.start_le_end
    from.middle
    (ap length from.middle
    ∙ length-range c.args.self.now.items c.args.start c.args.end c.requires.start_le_end
    c.requires.in_bounds)
    o.front o.middle o.tail o.gap_before o.capacity o.cost o.changes c.widen_gap.ensures
    c.move_middle_to.ensures.other_changes c.close.ensures.changes

pub returns-clause-bounds : goal.returns-clause-bounds
returns-clause-bounds g c =
    let before = c.open-from.ensures.bounds_before in
    let same = ap (λ v. v.capacity) (returns-clause-changes g c) in (
      before,
      bounds-like _ _ c.args.self.now before same (omega (arith, c.close-2.ensures.room, same)),
    )

pub returns-clause-other_bounds : goal.returns-clause-other_bounds
returns-clause-other_bounds g c =
    let before = c.open-to.ensures.bounds_before in
    let same = ap (λ v. v.capacity) (returns-clause-other_changes g c) in (
      before,
      bounds-like _ _ c.args.other.now before same (omega (arith, c.close.ensures.room, same)),
    )
