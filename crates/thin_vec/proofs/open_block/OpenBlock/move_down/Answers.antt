-- `move_run_down` moves the first `k` middle items into the slots directly after the front items.
use Rattle.thin_block.specs.Block.{block_view}
use Rattle.std.proofs.Common.{◌≡◌, ◌≤◌, ◌++◌, ap, sym, subst, ◌∙◌, arith, length, take, drop}
use Rattle.std.specs.Prelude.{IsSome}
use Rattle.thin_block.specs.Cost.{add_moves}
use Rattle.thin_block.specs.Slots.{move_slots, slot}
use Rattle.thin_vec.specs.OpenBlock.{open_view}
use Rattle.thin_vec.proofs.OpenBlockLemmas.{Found, before-empty, middle-filled}
use Rattle.thin_vec.proofs.open_block.MiddleLemmas.{moved_run, moved_run-view, move_down-step}
use Rattle.thin_vec.proofs.open_block.OpenBlock.move_down.Goals as goal

pub move_run_down-block-requires-clause-empty : goal.move_run_down-block-requires-clause-empty
move_run_down-block-requires-clause-empty g c = λ j low high.
    let o = c.self.invariant in
    ap (λ b. slot b.slots j) c.replace-block.ensures.value
    ∙ before-empty c.self.inside (open_view c.self.inside) o j low
    (omega (arith, high, o.gap_before))

pub move_run_down-block-requires-clause-filled : goal.move_run_down-block-requires-clause-filled
move_run_down-block-requires-clause-filled g c = λ j low high.
    let o = c.self.invariant in
    subst (λ b. IsSome (slot b.slots j)) (sym c.replace-block.ensures.value)
    (middle-filled c.self.inside (open_view c.self.inside) o j (omega (arith, low, o.gap_before))
    (omega (arith, ap (λ v. length v.middle) c.self.view_is)))

facts : (g : _) (c : goal.After-self-2-1 g)
    → let low : c.args.k ≤ length (open_view c.self.inside).middle =
    omega (arith, c.requires.in_bounds, ap (λ v. length v.middle) c.self.view_is) in
    Found (moved_run c.self.inside c.self.invariant c.args.k low c.replace_unallocated.new.self)
    (moved_run-view c.self.inside c.self.invariant c.args.k low c.replace_unallocated.new.self)
facts g c =
    let h = c.self.inside in
    let o = c.self.invariant in
    let low : c.args.k ≤ length (open_view h).middle =
    omega (arith, c.requires.in_bounds, ap (λ v. length v.middle) c.self.view_is) in
    move_down-step h o c.args.k low c.replace_unallocated.new.self
    (ap block_view c.replace_unallocated.ensures.value
    ∙ (c.move_run_down-block.ensures.changes
    ∙ (λ i. let v = block_view (c.replace-block.ensures.value i) in record v {
      slots = move_slots h.middle_start h.front_end c.args.k v.slots;
      cost = add_moves c.args.k v.cost;
    })))

pub invariant_of-self : goal.invariant_of-self
invariant_of-self g c = (facts g c).lies

pub returns : goal.returns
returns g c =
    let spent : c.replace_unallocated.new.self.cost ≡ add_moves c.args.k c.args.self.now.cost =
    ap (λ b. b.cost) c.replace_unallocated.ensures.value
    ∙ (ap (λ v. v.cost) c.move_run_down-block.ensures.changes
    ∙ (ap (λ b. add_moves c.args.k b.cost) c.replace-block.ensures.value
    ∙ ap (λ v. add_moves c.args.k v.cost) c.self.view_is)) in
    (facts g c).view ∙ (λ i. let v = c.self.view_is i in record v
    { front = v.front ++ take c.args.k v.middle; middle = drop c.args.k v.middle; cost = spent i })
