-- `put_iter` puts the yielded items into the gap directly after the front items.
use Rattle.std.proofs.Common.{◌≡◌, ◌-◌, ◌++◌, ◌∙◌, ap, arith, length, sym}
use Rattle.thin_block.proofs.BlockLemmas.{slots-are}
use Rattle.thin_block.specs.Block.{block_view}
use Rattle.thin_block.specs.Cost.{add_moves}
use Rattle.thin_block.specs.Slots.{filled_slots, write_slots}
use Rattle.thin_vec.proofs.OpenBlockLemmas.{Found}
use Rattle.thin_vec.proofs.open_block.StepLemmas.{fill-view}
use Rattle.thin_vec.proofs.PutLemmas.{filled-fits, filled-room}
use Rattle.thin_vec.proofs.open_block.OpenBlock.fill.Goals as goal

facts : (g : _) (c : goal.After-self-1 g)
    → let xs = c.put_iter-block.ensures.filled_by.0.items in
    Found (record c.self.inside {
      block = c.replace_unallocated.new.self;
      front_end = c.put_iter-block.result.1.end;
    })
    (record c.args.self.now {
      front = c.args.self.now.front ++ xs;
      gap_before = c.args.self.now.gap_before - length xs;
      cost = add_moves (length xs) c.args.self.now.cost;
    })
facts g c =
    let h = c.self.inside in
    let put = c.put_iter-block in
    let xs = put.ensures.filled_by.0.items in
    let many : put.result.1.end - h.front_end ≡ length xs =
    omega (arith, put.ensures.filled_by.2) in
    fill-view h c.self.invariant c.self.view_is c.replace_unallocated.new.self xs _
    put.ensures.filled_by.2
    (omega (arith, filled-fits put.ensures.filled_by.0, ap (λ v. v.gap_before) c.self.view_is))
    (ap block_view c.replace_unallocated.ensures.value
    ∙ (slots-are put.ensures.changes put.ensures.filled_by.1
    ∙ (λ i. let v = block_view (c.replace-block.ensures.value i) in record v {
      slots = write_slots h.front_end (filled_slots xs) v.slots;
      cost = add_moves (many i) v.cost;
    })))

pub invariant_of-self : goal.invariant_of-self
invariant_of-self g c = (facts g c).lies

pub returns : goal.returns
returns g c = record {
  filled_by = (
    filled-room (ap (λ v. v.gap_before) c.self.view_is) c.put_iter-block.ensures.filled_by.0,
    (facts g c).view,
    sym (facts g c).lies.front,
  );
}
