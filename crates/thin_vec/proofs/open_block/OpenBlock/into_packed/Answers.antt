-- If there is a gap after the front items, `close_small_gap` moves all later items to its start.
use Rattle.std.proofs.Common.{◌≡◌, ◌+◌, ◌-◌, ap, arith, ◌∙◌}
use Rattle.thin_block.specs.Slots.{packed_slots, move_slots}
use Rattle.thin_vec.specs.OpenBlock.{open_view}
use Rattle.thin_vec.specs.OpenView.{items_of}
use Rattle.thin_vec.proofs.OpenBlockLemmas.{before-empty}
use Rattle.thin_vec.proofs.open_block.StepLemmas.{after-filled, close-slots, closed-slots}
use Rattle.std.proofs.lemmas.Grind.{common_steps}
use Rattle.thin_vec.proofs.open_block.OpenBlock.into_packed.Goals as goal

pub close_small_gap-closed-requires-clause-empty : goal.close_small_gap-closed-requires-clause-empty
close_small_gap-closed-requires-clause-empty g c = λ j low high.
    let o = c.self.invariant in
    before-empty c.self.inside (open_view c.self.inside) o j low (omega (arith, high, o.gap_before))

pub close_small_gap-closed-requires-clause-filled :
    goal.close_small_gap-closed-requires-clause-filled
close_small_gap-closed-requires-clause-filled g c = λ j low high.
    let o = c.self.invariant in
    after-filled c.self.inside o (ap (λ v. v.gap_after) c.self.view_is ∙ c.requires.gap_after) j
    (omega (arith, low, o.gap_before)) (omega (arith, high, o.gap_before))

pub returns-then-front_end-middle_start-clause-slots :
    goal.returns-then-front_end-middle_start-clause-slots
returns-then-front_end-middle_start-clause-slots g c =
    let none = ap (λ v. v.gap_after) c.self.view_is ∙ c.requires.gap_after in
    ap (λ v. v.slots) c.set_len.ensures.changes
    ∙ (closed-slots c.self.inside c.self.invariant none c.if-front_end-middle_start.true
    ∙ ap (λ v. packed_slots (items_of v) v.capacity) c.self.view_is)

pub returns-clause-slots : goal.returns-clause-slots
returns-clause-slots g c =
    let h = c.self.inside in
    let o = c.self.invariant in
    let none = ap (λ v. v.gap_after) c.self.view_is ∙ c.requires.gap_after in
    let same : h.front_end + (h.middle_start - h.front_end) ≡ h.middle_start =
    omega (arith, o.gap_before) in
    ap (λ v. v.slots) c.store_len.ensures.changes
    ∙ (ap (λ v. v.slots) c.close_small_gap-closed.ensures.changes
    ∙ (ap (λ n. move_slots n h.front_end (h.tail_end - h.middle_start) h.block.slots) same
    ∙ (close-slots h o none ∙ ap (λ v. packed_slots (items_of v) v.capacity) c.self.view_is)))

pub close_small_gap-closed-requires-clause-in_bounds :
    goal.close_small_gap-closed-requires-clause-in_bounds
close_small_gap-closed-requires-clause-in_bounds g c = grind (arith, common_steps)

pub returns-clause-len : goal.returns-clause-len
returns-clause-len g c = grind (arith, common_steps)

pub returns-clause-in_bounds : goal.returns-clause-in_bounds
returns-clause-in_bounds g c = grind (arith, common_steps)
