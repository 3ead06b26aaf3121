-- `put_iter` moves items into the slots after the last item, and `set_len` stores the new length.
use Rattle.thin_block.proofs.BlockLemmas.{then-len}
use Rattle.std.proofs.lemmas.Grind.{common_steps}
use Rattle.std.proofs.Common.{◌++◌, ◌-◌, ◌≡◌, ◌∙◌, ap, arith, length, length-append}
use Rattle.thin_block.specs.Block.{block_view}
use Rattle.thin_block.specs.Cost.{add_moves}
use Rattle.thin_block.specs.Slots.{filled_slots, items_in, write_slots}
use Rattle.thin_vec.proofs.list.AppendSplitLemmas.{restores-more}
use Rattle.thin_vec.proofs.ListBlockLemmas.{RestoresInvariant, thin-room, list_view-keeps}
use Rattle.thin_vec.proofs.PutLemmas.{filled-fits, filled-room}
use Rattle.thin_vec.proofs.BoundsLemmas.{bounds-kept}
use Rattle.thin_vec.proofs.list.ThinVec.fill_spare.Goals as goal

stored : (g : _) (c : goal.After-set_len g) → block_view c.replace_unallocated.new.self
    ≡ record (block_view c.self.inside.block) {
      slots = write_slots c.len-len.result (filled_slots c.put_iter-block.ensures.filled_by.0.items)
          c.self.inside.block.slots;
      cost = add_moves (c.put_iter-block.result.1.end - c.len-len.result) c.self.inside.block.cost;
    }
stored g c =
    cc (
      c.replace_unallocated.ensures.value,
      c.put_iter-block.ensures.changes,
      c.put_iter-block.ensures.filled_by.1,
      c.replace-block.ensures.value,
    )

facts : (g : _) (c : goal.After-set_len g)
    → RestoresInvariant c.set_len.new.self c.self.inside.alloc
    (items_in c.self.inside.block.slots ++ c.put_iter-block.ensures.filled_by.0.items)
    (length c.self.inside.block.slots)
facts g c =
    let put = c.put_iter-block.ensures.filled_by in
    restores-more c.self.invariant c.set_len.new.self put.0.items c.len-len.result
    c.len-len.ensures.value
    (omega (
      arith,
      filled-fits put.0,
      thin-room c.self.inside.block c.self.inside.alloc c.self.invariant,
    ))
    put.2
    (then-len c.set_len.ensures.changes (stored g c))

ends : (g : _) (c : goal.After-set_len g) → c.put_iter-block.result.1.end
    ≡ length (items_in c.set_len.new.self.slots)
ends g c =
    let put = c.put_iter-block.ensures.filled_by in
    omega (
      arith,
      ap length (facts g c).items,
      length-append (items_in c.self.inside.block.slots) put.0.items,
    )

begins : (g : _) (c : goal.After-set_len g) → c.len-len.result ≡ length c.args.self.now.items
begins g c = c.len-len.ensures.value
    ∙ (c.self.invariant.packed.len ∙ ap (λ v. length v.items) c.self.view_is)

pub invariant_of-self : goal.invariant_of-self
invariant_of-self g c = (facts g c).thin

pub returns-clause-filled_by : goal.returns-clause-filled_by
returns-clause-filled_by g c =
    let put = c.put_iter-block.ensures.filled_by in
    let xs = put.0.items in
    let room : c.cap-cap.result - c.len-len.result
    ≡ c.args.self.now.capacity - length c.args.self.now.items =
    omega (arith, c.cap-cap.ensures.value, ap (λ v. v.capacity) c.self.view_is, begins g c) in (
      filled-room room put.0,
      list_view-keeps c.self.view_is c.set_len.new.self (facts g c).cap
          ((facts g c).items ∙ ap (λ v. v.items ++ xs) c.self.view_is)
          (ap (λ v. v.cost) c.set_len.ensures.changes
          ∙ (ap (λ v. v.cost) (stored g c)
          ∙ (ap (λ v. add_moves (c.put_iter-block.result.1.end - c.len-len.result) v.cost)
          c.self.view_is
          ∙ ap (λ k. add_moves k c.args.self.now.cost) (omega (arith, put.2))))),
      ends g c,
    )

pub returns-clause-bounds : goal.returns-clause-bounds
returns-clause-bounds g c =
    bounds-kept _ _ _ _ _ _ c.self.invariant c.self.view_is c.len-len.ensures.bounds (facts g c)

pub returns-clause-cheap : goal.returns-clause-cheap
returns-clause-cheap g c = grind (arith, common_steps)
