-- At least `count` empty slots follow the tail items, so these items can be moved up by `count`.
use Rattle.std.proofs.Common.{◌≡◌, ℕ, ◌+◌, ◌-◌, ◌≤◌, ◌∙◌, ap, arith, length, subst, sym}
use Rattle.std.specs.Prelude.{IsSome}
use Rattle.thin_block.specs.Block.{block_view}
use Rattle.thin_block.specs.Cost.{add_moves}
use Rattle.thin_block.specs.Slots.{move_slots, slot}
use Rattle.thin_vec.specs.OpenBlock.{IsOpenViewOf, open_view}
use Rattle.thin_vec.specs.OpenView.{OpenView, tail_end}
use Rattle.thin_vec.specs.declared.open_block.OpenBlock.TheInside.{Inside}
use Rattle.thin_vec.proofs.OpenBlockLemmas.{Found, reached, tail-filled}
use Rattle.thin_vec.proofs.open_block.StepLemmas.{spare-empty, widen-step, widened, widened-view}
use Rattle.thin_vec.proofs.open_block.OpenBlock.shift_tail_up.Goals as goal

fits : {T A : Type 0} (h : Inside T A) (v : OpenView T A) (k : ℕ) → IsOpenViewOf h (open_view h)
    → open_view h ≡ v
    → tail_end v + k ≤ v.capacity → h.tail_end + k ≤ (open_view h).capacity
fits h v k shows is room =
    omega (arith, room, reached h (open_view h) shows, ap tail_end is, ap (λ w. w.capacity) is)

pub open_gap-block-requires-clause-empty : goal.open_gap-block-requires-clause-empty
open_gap-block-requires-clause-empty g c = λ j low high.
    let h = c.self.inside in
    let o = c.self.invariant in
    let room = fits h c.args.self.now c.args.count o c.self.view_is c.requires.room in
    ap (λ b. slot b.slots j) c.replace-block.ensures.value
    ∙ spare-empty h o h.block c.args.count room j (omega (arith, low, o.tail))
    (omega (arith, high, o.tail))

pub open_gap-block-requires-clause-filled : goal.open_gap-block-requires-clause-filled
open_gap-block-requires-clause-filled g c = λ j low high.
    let o = c.self.invariant in
    subst (λ b. IsSome (slot b.slots j)) (sym c.replace-block.ensures.value)
    (tail-filled c.self.inside (open_view c.self.inside) o j low (omega (arith, high, o.tail)))

stored : (g : _) (c : goal.After-self-2-1 g)
    → let h = c.self.inside in
    block_view c.replace_unallocated.new.self ≡ record (block_view h.block) {
      slots = move_slots h.tail_start (h.tail_start + c.args.count)
          (h.tail_end - h.tail_start) h.block.slots;
      cost = add_moves (h.tail_end - h.tail_start) h.block.cost;
    }
stored g c =
    cc (
      c.replace_unallocated.ensures.value,
      c.open_gap-block.ensures.changes,
      c.replace-block.ensures.value,
    )

facts : (g : _) (c : goal.After-self-2-1 g)
    → let room = fits c.self.inside c.args.self.now c.args.count c.self.invariant
    c.self.view_is c.requires.room in
    Found (widened c.self.inside c.self.invariant c.replace_unallocated.new.self c.args.count room)
    (widened-view c.self.inside c.self.invariant c.replace_unallocated.new.self c.args.count room)
facts g c = widen-step c.self.inside c.self.invariant c.replace_unallocated.new.self c.args.count
    (fits c.self.inside c.args.self.now c.args.count c.self.invariant c.self.view_is
    c.requires.room) (ap (λ v. v.slots) (stored g c))

pub invariant_of-self : goal.invariant_of-self
invariant_of-self g c = (facts g c).lies

pub returns : goal.returns
returns g c =
    let h = c.self.inside in
    let dest = c.replace_unallocated.new.self in
    let now = c.args.self.now in
    let alloc : dest.alloc ≡ now.alloc =
    ap (λ v. v.alloc) (stored g c) ∙ ap (λ v. v.alloc) c.self.view_is in
    let count : h.tail_end - h.tail_start ≡ length now.tail =
    omega (arith, c.self.invariant.tail, ap (λ v. length v.tail) c.self.view_is) in
    let spent : dest.cost ≡ add_moves (length now.tail) now.cost =
    ap (λ v. v.cost) (stored g c) ∙ (λ i. add_moves (count i) (c.self.view_is i).cost) in
    (facts g c).view ∙ (λ i. let v = c.self.view_is i in record v
    { gap_after = v.gap_after + c.args.count; alloc = alloc i; cost = spent i })
