-- Unless the item at `index` is the last item, `swap_take` moves the last item into its slot.
use Rattle.std.proofs.Common.{◌-◌, sym, ap, ◌∙◌, length, arith, refl}
use Rattle.std.specs.List.{slice_get, swap_remove}
use Rattle.thin_block.proofs.BlockLemmas.{then-len}
use Rattle.thin_block.specs.Slots.{items_in}
use Rattle.thin_vec.proofs.list.InsertRemoveLemmas.{restores-replaced}
use Rattle.thin_vec.proofs.ListBlockLemmas.{RestoresInvariant, thin-filled, thin-get}
use Rattle.thin_vec.proofs.list.ReservesLemmas.{keeps-settled}
use Rattle.std.proofs.lemmas.Option.{get_or_from_slice_get}
use Rattle.thin_vec.proofs.list.ThinVec.swap_remove.Goals as goal

pub swap_take-value-requires : goal.swap_take-value-requires
swap_take-value-requires g c =
    record {
      filled = thin-filled c.self.inside.block c.self.inside.alloc c.args.index c.self.invariant
          (omega (arith, c.requires.in_bounds, ap (λ v. length v.items) c.self.view_is));
      other_filled = thin-filled c.self.inside.block c.self.inside.alloc _ c.self.invariant
          (omega (arith, ap (λ v. length v.items) c.self.view_is));
    }

facts : (g : _) (c : goal.After-store_len g)
    → RestoresInvariant c.store_len.new.self c.self.inside.alloc
    (swap_remove (items_in c.self.inside.block.slots)
    c.args.index c.swap_take-value.result) (length c.self.inside.block.slots)
facts g c =
    let long = ap (λ v. length v.items) c.self.view_is in
    restores-replaced c.self.invariant c.store_len.new.self c.args.index (c.len-last.result - 1)
    c.swap_take-value.result
    (omega arith)
    (omega arith)
    c.swap_take-value.ensures.value
    (then-len c.store_len.ensures.changes c.swap_take-value.ensures.changes)

pub invariant_of-self : goal.invariant_of-self
invariant_of-self g c = (facts g c).thin

pub returns-clause-found : goal.returns-clause-found
returns-clause-found g c =
    let long = ap (λ v. length v.items) c.self.view_is in
    sym (ap (λ v. slice_get v.items c.args.index) c.self.view_is)
    ∙ thin-get c.self.inside.block c.self.inside.alloc c.args.index c.swap_take-value.result
    c.self.invariant (omega (arith, c.requires.in_bounds, long))
    c.swap_take-value.ensures.value

pub returns-clause-value : goal.returns-clause-value
returns-clause-value g c = sym (get_or_from_slice_get c.args.self.now.items c.args.index c.swap_take-value.result c.swap_take-value.result (returns-clause-found g c))

pub returns-clause-items : goal.returns-clause-items
returns-clause-items g c = (facts g c).items
    ∙ ap (λ v. swap_remove v.items c.args.index c.swap_take-value.result) c.self.view_is

pub returns-clause-cost : goal.returns-clause-cost
returns-clause-cost g c = search (arith, ◌∙◌)

pub returns-clause-preserved : goal.returns-clause-preserved
returns-clause-preserved g c =
    keeps-settled _ _ c.self.invariant c.self.view_is c.len-last.ensures.bounds (facts g c)
    (ap (λ v. v.cost) c.store_len.ensures.changes
    ∙ ap (λ v. v.cost) c.swap_take-value.ensures.changes) (refl, refl)
