-- `append_to_front` puts `value` into the first slot of the gap, directly after the front items.
use Rattle.std.proofs.Common.{◌+◌, ◌-◌, ◌<◌, ◌++◌, ◌∷◌, ◌∙◌, [], Some, ap, arith, length, refl}
use Rattle.thin_block.specs.Block.{block_view}
use Rattle.thin_block.specs.Cost.{add_moves}
use Rattle.thin_vec.proofs.OpenBlockLemmas.{Found}
use Rattle.thin_vec.proofs.open_block.StepLemmas.{fill-view, set-written}
use Rattle.thin_vec.proofs.open_block.OpenBlock.append_to_front.Goals as goal

facts : (g : _) (c : goal.After-self-1 g)
    → Found (record c.self.inside {
      block = c.put.new.self;
      front_end = c.self.inside.front_end + 1;
    })
    (record c.args.self.now {
      front = c.args.self.now.front ++ c.args.value ∷ [];
      gap_before = c.args.self.now.gap_before - 1;
      cost = add_moves 1 c.args.self.now.cost;
    })
facts g c =
    let h = c.self.inside in
    let o = c.self.invariant in
    let gap_before = ap (λ v. v.gap_before) c.self.view_is in
    let low : h.front_end < length h.block.slots =
    omega arith in
    fill-view h o c.self.view_is c.put.new.self (c.args.value ∷ []) (h.front_end + 1) refl
    (omega (arith, c.requires.gap_before))
    (c.put.ensures.changes ∙ (λ i. record (block_view h.block) {
      slots = set-written h.block.slots h.front_end (Some c.args.value) low i;
      cost = add_moves 1 h.block.cost;
    }))

pub invariant_of-self : goal.invariant_of-self
invariant_of-self g c = (facts g c).lies

pub returns : goal.returns
returns g c = (facts g c).view
