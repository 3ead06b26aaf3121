-- If the list does not become longer, its capacity does not change. Otherwise, `reserve` determines
-- the new capacity, and the results of `make` are appended.
use Rattle.std.proofs.Common.{Some, ◌≡◌, ◌-◌, ◌++◌, ap, arith, length, length-append, refl, subst, sym, take, take_all, ◌∙◌}
use denote.Param.{param}
use Rattle.thin_vec.specs.List.Capacity.{OverflowsIff}
use Rattle.thin_vec.specs.ThinVec.{capacity_after_reserve}
use Rattle.thin_block.proofs.BlockLemmas.{slots-are, then-len}
use Rattle.thin_block.specs.Capacity.{Fits}
use Rattle.thin_block.specs.Slots.{items_in}
use Rattle.thin_vec.proofs.list.AppendSplitLemmas.{restores-more}
use Rattle.thin_vec.proofs.ListBlockLemmas.{RestoresInvariant}
use Rattle.thin_vec.proofs.list.ReservesLemmas.{capacity-kept, keeps-join, keeps-settled, tells-ok}
use Rattle.thin_vec.proofs.list.ThinVec.resize_with.Goals.{After-set_len}
use Rattle.thin_vec.proofs.list.ThinVec.resize_with.Goals as goal

pub returns-then-len-old-clause-capacity : goal.returns-then-len-old-clause-capacity
returns-then-len-old-clause-capacity g c =
    capacity-kept (param 0 g.row.T) c.args.self.now g.G.Growth.rule _ c.truncate.new.self
    (omega (arith, c.len-old.ensures.value, c.if-len-old.true, c.len-old.ensures.bounds.room))
    (ap (λ v. v.capacity) c.truncate.ensures.changes)

pub returns-then-len-old-clause-overflow : goal.returns-then-len-old-clause-overflow
returns-then-len-old-clause-overflow g c =
    tells-ok _ _ _ (returns-then-len-old-clause-capacity g c)

pub returns-in_err-reserve-clause-overflow : goal.returns-in_err-reserve-clause-overflow
returns-in_err-reserve-clause-overflow g c =
    subst (λ n. OverflowsIff (capacity_after_reserve g.G.Growth.rule (param 0 g.row.T)
    c.args.self.now (c.args.len - n)) c.from_residual.result) c.len-old.ensures.value
    (search (arith, ◌∙◌))

-- `put_results` writes the results of `make` into the slots directly after the last item.
facts : (g : _) (c : After-set_len g)
    → RestoresInvariant c.set_len.new.self c.self.inside.alloc
    (items_in c.self.inside.block.slots ++ c.put_results.ensures.slots.0)
    (length c.self.inside.block.slots)
facts g c =
    let put = c.put_results.ensures in
    let old = c.len-old in
    let same = ap length c.reserve.ensures.items in
    let len : old.result ≡ length c.reserve.new.self.items =
    omega (arith, same, old.ensures.value) in
    restores-more c.self.invariant c.set_len.new.self put.slots.0 old.result
    (omega (arith, ap (λ v. length v.items) c.self.view_is))
    (omega (
      arith,
      c.in_ok-reserve.ensures.room,
      ap (λ v. length v.items) c.self.view_is,
      ap (λ v. v.capacity) c.self.view_is,
    ))
    (omega (arith, put.slots.2, c.if-len-old.false))
    (then-len c.set_len.ensures.changes
    (slots-are put.changes put.slots.4))

kept : (g : _) (c : After-set_len g)
    → length c.set_len.new.self.slots ≡ c.reserve.new.self.capacity
kept g c = (facts g c).cap ∙ ap (λ z. z.capacity) c.self.view_is

pub invariant_of-self : goal.invariant_of-self
invariant_of-self g c = (facts g c).thin

pub returns-clause-capacity : goal.returns-clause-capacity
returns-clause-capacity g c =
    ap (λ n. capacity_after_reserve g.G.Growth.rule (param 0 g.row.T) c.args.self.now
    (c.args.len - n)) (sym c.len-old.ensures.value)
    ∙ (c.in_ok-reserve.ensures.capacity ∙ ap Some (sym (kept g c)))

pub returns-clause-had_room : goal.returns-clause-had_room
returns-clause-had_room g c room =
    kept g c
    ∙ ap (λ z. z.capacity)
    (c.reserve.ensures.had_room (omega (arith, room, c.len-old.ensures.value)))

pub returns-clause-overflow : goal.returns-clause-overflow
returns-clause-overflow g c = tells-ok _ _ _ (returns-clause-capacity g c)

pub returns-clause-items : goal.returns-clause-items
returns-clause-items g c =
    let made = c.put_results.ensures.slots in
    let old = c.args.self.now.items in
    let all : take c.args.len old ≡ old =
    take_all c.args.len old (omega (arith, c.len-old.ensures.value, c.if-len-old.false)) in (
      made.0,
      made.1,
      (facts g c).items ∙ (ap (λ v. v.items ++ made.0) c.self.view_is
          ∙ ap (λ l. l ++ made.0) (c.reserve.ensures.items ∙ sym all)),
      made.3,
    )

pub returns-clause-len : goal.returns-clause-len
returns-clause-len g c =
    let made = c.put_results.ensures.slots in
    omega (
      arith,
      ap length (facts g c).items,
      length-append (items_in c.self.inside.block.slots) made.0,
      ap (λ v. length v.items) c.self.view_is,
      ap length c.reserve.ensures.items,
    )

pub returns-clause-preserved : goal.returns-clause-preserved
returns-clause-preserved g c =
    let T = param 0 g.row.T in
    let kept = c.reserve.ensures.preserved in
    keeps-join kept
    (keeps-settled T c.reserve.new.self c.self.invariant c.self.view_is
    (subst (λ n. Fits T n) (sym (ap (λ z. z.capacity) c.self.view_is))
    kept.within.1.fits)
    (facts g c)
    (ap (λ z. z.cost) c.set_len.ensures.changes ∙ ap (λ z. z.cost) c.put_results.ensures.changes)
    (refl, refl))
