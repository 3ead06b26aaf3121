-- `reserve` does not require items that are `Copy`, but its contract uses only the size and the
-- alignment of the item type.
use Rattle.std.proofs.Common.{◌≡◌, ◌-◌, ◌∙◌, Err, Some, ap, arith, length, subst, sym}
use denote.Param.{copied}
use Rattle.thin_vec.specs.ThinVec.{capacity_after_reserve}
use Rattle.thin_vec.specs.List.Capacity.{OverflowsIff}
use Rattle.thin_vec.proofs.list.ReservesLemmas.{tells-ok}
use Rattle.thin_vec.proofs.list.ThinVec.replace_range_from_copies.Goals.{After-close}
use Rattle.thin_vec.proofs.list.ThinVec.replace_range_from_copies.Goals as goal

more : (g : _) (c : After-close g)
    → length c.args.items.now - (c.args.end - c.args.start) ≡ c.saturating_sub-more.result
more g c = omega arith

kept : (g : _) (c : After-close g) → c.close.new.self.capacity ≡ c.reserve.new.self.capacity
kept g c =
    ap (λ z. z.capacity) c.close.ensures.changes
    ∙ (ap (λ z. z.capacity) c.fill_from_copies.ensures ∙ c.open_with_gap-block.ensures.capacity)

pub returns-clause-capacity : goal.returns-clause-capacity
returns-clause-capacity g c =
    ap (λ n. capacity_after_reserve g.G.Growth.rule (copied 0 g.row.T) c.args.self.now n) (more g c)
    ∙ (c.in-Ok.ensures.capacity ∙ ap Some (sym (kept g c)))

pub returns-clause-had_room : goal.returns-clause-had_room
returns-clause-had_room g c room =
    kept g c ∙ ap (λ z. z.capacity) (c.in-Ok.ensures.had_room (omega (arith, room, more g c)))

pub returns-clause-overflow : goal.returns-clause-overflow
returns-clause-overflow g c = tells-ok _ _ _ (returns-clause-capacity g c)

pub returns-in-Err-clause-overflow : goal.returns-in-Err-clause-overflow
returns-in-Err-clause-overflow g c =
    let k = c.saturating_sub-more.result in
    let more : length c.args.items.now - (c.args.end - c.args.start) ≡ k = omega arith in
    subst (λ n. OverflowsIff (capacity_after_reserve g.G.Growth.rule (copied 0 g.row.T)
    c.args.self.now n) (Err c.in-Err.cause)) (sym more) c.in-Err.ensures.overflow
