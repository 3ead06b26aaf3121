-- `remove` takes the item out of its slot, and moves all later items down by one slot.
use Rattle.std.proofs.Common.{◌+◌, ◌-◌, ap, ◌∙◌, length, arith, refl, sym}
use Rattle.std.specs.Prelude.{remove}
use Rattle.thin_vec.proofs.ListBlockLemmas.{RestoresInvariant, thin-filled, thin-get, kept-filled}
use Rattle.thin_block.proofs.BlockLemmas.{then-len}
use Rattle.thin_block.specs.Block.{BlockView}
use Rattle.thin_block.specs.Cost.{add_moves}
use Rattle.thin_block.specs.Slots.{items_in, move_slots}
use Rattle.thin_vec.proofs.list.ThinVec.remove.Goals.{After-store_len}
use Rattle.thin_vec.proofs.list.InsertRemoveLemmas.{restores-remove}
use Rattle.thin_vec.proofs.list.ReservesLemmas.{keeps-settled}
use Rattle.std.proofs.lemmas.Option.{get_or_from_slice_get}
use Rattle.thin_vec.proofs.list.ThinVec.remove.Goals as goal

pub take-value-requires : goal.take-value-requires
take-value-requires g c =
    record {
      filled = thin-filled c.self.inside.block c.self.inside.alloc c.args.index
          c.self.invariant (omega
          (arith, c.requires.in_bounds, ap (λ v. length v.items) c.self.view_is));
    }

pub move_down-requires-clause-filled : goal.move_down-requires-clause-filled
move_down-requires-clause-filled g c = λ j low high.
    kept-filled c.self.inside.block c.self.inside.alloc c.args.index j _ c.self.invariant
    (omega arith) (omega (arith, high, c.len-len.ensures.value, c.self.invariant.packed.len))
    (ap (λ v. v.slots) c.take-value.ensures.changes)

pub returns-clause-found : goal.returns-clause-found
returns-clause-found g c =
    rw (← ap (λ v. v.items) c.self.view_is)
    (thin-get c.self.inside.block c.self.inside.alloc c.args.index c.take-value.result
    c.self.invariant (omega
    (arith, c.requires.in_bounds, ap (λ v. length v.items) c.self.view_is))
    c.take-value.ensures.value)

facts : (g : _) (c : After-store_len g) → RestoresInvariant c.store_len.new.self c.self.inside.alloc
    (remove (items_in c.self.inside.block.slots) c.args.index) (length c.self.inside.block.slots)
facts g c =
    let after = c.len-len.result - (c.args.index + 1) in
    restores-remove c.self.invariant c.store_len.new.self c.args.index
    (omega (arith, c.requires.in_bounds, ap (λ v. length v.items) c.self.view_is)) refl
    (ap (λ n. n - (c.args.index + 1)) c.len-len.ensures.value) c.len-len.ensures.value
    (then-len c.store_len.ensures.changes (c.move_down.ensures.changes
    ∙ ap {A = BlockView _ _} (λ v. record v {
      slots = move_slots (c.args.index + 1) c.args.index after v.slots;
      cost = add_moves after v.cost;
    }) c.take-value.ensures.changes))

pub invariant_of-self : goal.invariant_of-self
invariant_of-self g c = (facts g c).thin

pub returns-clause-value : goal.returns-clause-value
returns-clause-value g c = sym (get_or_from_slice_get c.args.self.now.items c.args.index c.take-value.result c.take-value.result (returns-clause-found g c))

pub returns-clause-items : goal.returns-clause-items
returns-clause-items g c = (facts g c).items ∙ ap (λ v. remove v.items c.args.index) c.self.view_is

pub returns-clause-preserved : goal.returns-clause-preserved
returns-clause-preserved g c =
    keeps-settled _ _ c.self.invariant c.self.view_is c.len-len.ensures.bounds (facts g c)
    (ap (λ v. v.cost) c.store_len.ensures.changes
    ∙ (ap (λ v. v.cost) c.move_down.ensures.changes
    ∙ ap (λ v. add_moves (c.len-len.result - (c.args.index + 1)) v.cost)
    c.take-value.ensures.changes)) (refl, refl)
