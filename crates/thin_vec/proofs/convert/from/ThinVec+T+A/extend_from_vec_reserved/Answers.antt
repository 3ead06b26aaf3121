-- The list has no items before the call, so it has exactly the items that `put_vec` puts into it.
use Rattle.std.proofs.Common.{◌≡◌, [], ◌++◌, ◌∙◌, ap, arith, length, sym, rules}
use Rattle.thin_block.proofs.BlockLemmas.{then-len}
use Rattle.thin_block.specs.Slots.{items_in}
use Rattle.thin_vec.proofs.ListBlockLemmas.{RestoresInvariant, list_view-keeps}
use Rattle.thin_vec.proofs.list.AppendSplitLemmas.{restores-more}
use Rattle.thin_vec.proofs.convert.from.ThinVec+T+A.extend_from_vec_reserved.Goals as goal
use Rattle.thin_vec.proofs.BoundsLemmas.{bounds-stays}

none : (g : _) (c : goal.After-set_len g) → items_in c.self.inside.block.slots ≡ []
none g c = ap (λ v. v.items) c.self.view_is ∙ c.requires.is_empty

facts : (g : _) (c : goal.After-set_len g)
    → RestoresInvariant c.set_len.new.self c.self.inside.alloc
    (items_in c.self.inside.block.slots ++ c.args.items.items) (length c.self.inside.block.slots)
facts g c =
    restores-more c.self.invariant c.set_len.new.self c.args.items.items 0
    (sym (c.self.invariant.packed.len ∙ ap length (none g c)))
    (omega (arith, c.requires.room, ap (λ v. v.capacity) c.self.view_is))
    (omega (arith, c.len-len.ensures, c.args.items.ok.0))
    (then-len c.set_len.ensures.changes c.put_vec.ensures.changes)

pub invariant_of-self : goal.invariant_of-self
invariant_of-self g c = (facts g c).thin

pub returns-clause-bounds : goal.returns-clause-bounds
returns-clause-bounds g c =
    bounds-stays _ c.self.inside.block c.self.inside.alloc c.set_len.new.self _ _ c.requires.bounds
    c.self.view_is (facts g c)

pub returns-clause-changes : goal.returns-clause-changes
returns-clause-changes g c =
    list_view-keeps c.self.view_is c.set_len.new.self (facts g c).cap
    ((facts g c).items ∙ ap (λ xs. xs ++ c.args.items.items) (none g c)) (search rules)
