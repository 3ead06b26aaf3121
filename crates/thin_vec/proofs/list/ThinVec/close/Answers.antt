-- `into_packed` removes the gap, and `close` puts the block back into the list.
use Rattle.std.proofs.Common.{ap, sym, ◌∙◌, rules}
use Rattle.thin_vec.specs.OpenView.{items_of}
use Rattle.thin_vec.proofs.ListBlockLemmas.{RestoresInvariant, settled, thin-room, list_view-becomes}
use Rattle.thin_vec.proofs.list.ThinVec.close.Goals as goal

facts : (g : _) (c : goal.After-release g)
    → RestoresInvariant c.replace-none.new.dest c.self.inside.alloc
    (items_of c.args.block) c.args.block.capacity
facts g c =
    let is = c.replace-none.ensures.after in
    settled c.replace-none.new.dest c.self.inside.alloc (items_of c.args.block)
    c.args.block.capacity
    (ap (λ b. b.slots) is ∙ c.into_packed.ensures.slots)
    (ap (λ b. b.len) is ∙ c.into_packed.ensures.len) c.into_packed.ensures.in_bounds
    (λ x e. c.requires.same_allocator x
    (sym c.into_packed.ensures.alloc ∙ (sym (ap (λ b. b.alloc) is) ∙ e))
    ∙ sym (ap (λ v. v.alloc) c.self.view_is))

pub invariant_of-self : goal.invariant_of-self
invariant_of-self g c = (facts g c).thin

pub returns-clause-room : goal.returns-clause-room
returns-clause-room g c = thin-room c.replace-none.new.dest c.self.inside.alloc (facts g c).thin

pub returns-clause-changes : goal.returns-clause-changes
returns-clause-changes g c =
    list_view-becomes c.self.view_is c.replace-none.new.dest (facts g c).cap (facts g c).items
    (search rules)
