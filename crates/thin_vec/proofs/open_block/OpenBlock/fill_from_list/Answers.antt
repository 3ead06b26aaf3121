-- `move_run_to` moves all items of `other` into the gap directly after the front items.
use Rattle.thin_block.proofs.BlockLemmas.{then-len}
use Rattle.thin_block.specs.Block.{block_view}
use Rattle.thin_block.specs.Cost.{add_moves}
use Rattle.thin_block.specs.Slots.{filled_slots, items_in, write_slots, slot_range}
use Rattle.std.proofs.Common.{◌≡◌, ◌+◌, ◌-◌, ◌++◌, ◌∙◌, List, Option, ap, arith, length, take, rules}
use Rattle.thin_vec.proofs.OpenBlockLemmas.{Found}
use Rattle.thin_vec.proofs.open_block.StepLemmas.{fill-view}
use Rattle.thin_vec.proofs.ListBlockLemmas.{RestoresInvariant, thin-filled, thin-room, list_view-keeps}
use Rattle.thin_vec.proofs.list.AppendSplitLemmas.{front-run, restores-cut}
use Rattle.thin_vec.proofs.open_block.OpenBlock.fill_from_list.Goals as goal

pub move_run_to-requires-clause-filled : goal.move_run_to-requires-clause-filled
move_run_to-requires-clause-filled g c = λ i low high.
    thin-filled c.other.inside.block c.other.inside.alloc i c.other.invariant
    (omega (arith, high, c.len-count.ensures.value, c.other.invariant.packed.len))

count : (g : _) (c : goal.After-self-1 g)
    → c.len-count.result ≡ length (items_in c.other.inside.block.slots)
count g c = c.len-count.ensures.value ∙ c.other.invariant.packed.len

same : (g : _) (c : goal.After-self-1 g) → c.len-count.result ≡ length c.args.other.now.items
same g c = count g c ∙ ap (λ v. length v.items) c.other.view_is

facts : (g : _) (c : goal.After-self-1 g)
    → Found (record c.self.inside {
      block = c.move_run_to.new.other;
      front_end = c.self.inside.front_end + c.len-count.result;
    })
    (record c.args.self.now {
      front = c.args.self.now.front ++ c.args.other.now.items;
      gap_before = c.args.self.now.gap_before - length c.args.other.now.items;
      cost = add_moves (length c.args.other.now.items) c.args.self.now.cost;
    })
facts g c =
    let o = c.other.inside.block in
    let h = c.self.inside in
    let items : items_in o.slots ≡ c.args.other.now.items = ap (λ v. v.items) c.other.view_is in
    let full : slot_range 0 c.len-count.result o.slots ≡ filled_slots c.args.other.now.items =
    ap (λ (r : List (Option g.row.T.Denot)). slot_range 0 c.len-count.result r)
    c.other.invariant.packed.slots
    ∙ (front-run (items_in o.slots) (length o.slots) 0 c.len-count.result (omega arith)
    (thin-room o c.other.inside.alloc c.other.invariant) (omega (arith, count g c))
    ∙ ap filled_slots items) in
    fill-view h c.self.invariant c.self.view_is c.move_run_to.new.other c.args.other.now.items _
    (ap (λ n. h.front_end + n) (same g c)) c.requires.room
    (c.move_run_to.ensures.other_changes ∙ (λ i. record (block_view h.block) {
      slots = write_slots h.front_end (full i) h.block.slots;
      cost = add_moves (same g c i) h.block.cost;
    }))

cut : (g : _) (c : goal.After-self-1 g) → RestoresInvariant c.set_len.new.self c.other.inside.alloc
    (take 0 (items_in c.other.inside.block.slots)) (length c.other.inside.block.slots)
cut g c =
    restores-cut c.other.invariant c.set_len.new.self 0 {k = c.len-count.result} (omega arith)
    (omega (arith, c.len-count.ensures.value))
    (then-len c.set_len.ensures.changes c.move_run_to.ensures.changes)

pub invariant_of-self : goal.invariant_of-self
invariant_of-self g c = (facts g c).lies

pub invariant_of-other : goal.invariant_of-other
invariant_of-other g c = (cut g c).thin

pub returns-clause-other_changes : goal.returns-clause-other_changes
returns-clause-other_changes g c =
    list_view-keeps c.other.view_is c.set_len.new.self (cut g c).cap (cut g c).items (search rules)

pub returns-clause-changes : goal.returns-clause-changes
returns-clause-changes g c = (facts g c).view
