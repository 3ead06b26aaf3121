-- `pop_last` empties the last filled slot, which holds the last item.
use Rattle.std.proofs.Common.{◌≡◌, ◌+◌, ◌++◌, ◌∷◌, [], sym, ap, ◌∙◌, length, take, arith, ◌-◌, refl, rules}
use Rattle.thin_vec.proofs.ListBlockLemmas.{RestoresInvariant, last-item, restores-pop, thin-filled, list_view-keeps}
use Rattle.thin_block.specs.Slots.{items_in}
use Rattle.thin_block.proofs.BlockLemmas.{then-len}
use Rattle.thin_vec.proofs.list.ThinVec.pop_last.Goals as goal

pub take-value-requires : goal.take-value-requires
take-value-requires g c =
    record {
      filled = thin-filled c.self.inside.block c.self.inside.alloc _ c.self.invariant
          (omega (arith, ap (λ v. length v.items) c.self.view_is));
    }

stored : (g : _) (c : goal.After-store_len g) → c.len-last.result - 1 + 1 ≡ c.self.inside.block.len
stored g c = omega (arith, ap (λ v. length v.items) c.self.view_is)

facts : (g : _) (c : goal.After-store_len g)
    → RestoresInvariant c.store_len.new.self c.self.inside.alloc
    (take (c.len-last.result - 1) (items_in c.self.inside.block.slots))
    (length c.self.inside.block.slots)
facts g c =
    restores-pop c.self.invariant c.store_len.new.self c.take-value.result (c.len-last.result - 1)
    (stored g c) c.take-value.ensures.value
    (then-len c.store_len.ensures.changes c.take-value.ensures.changes)

pub invariant_of-self : goal.invariant_of-self
invariant_of-self g c = (facts g c).thin

pub returns-clause-items : goal.returns-clause-items
returns-clause-items g c =
    sym (ap (λ v. v.items) c.self.view_is)
    ∙ (last-item c.self.inside.block c.self.inside.alloc c.take-value.result (c.len-last.result - 1)
    c.self.invariant (stored g c) c.take-value.ensures.value
    ∙ ap (λ xs. xs ++ c.take-value.result ∷ []) (sym (facts g c).items))

pub returns-clause-changes : goal.returns-clause-changes
returns-clause-changes g c =
    list_view-keeps c.self.view_is c.store_len.new.self (facts g c).cap refl (search rules)
