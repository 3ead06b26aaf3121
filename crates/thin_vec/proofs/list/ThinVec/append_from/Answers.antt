-- `append_from` moves the items of `other` from index `start` onward to the end of the list.
use Rattle.std.proofs.Common.{◌-◌, ◌++◌, ◌∙◌, ap, arith, drop, length, take, rules}
use Rattle.thin_block.proofs.BlockLemmas.{then-len}
use Rattle.thin_block.specs.Slots.{items_in}
use Rattle.thin_vec.proofs.list.AppendSplitLemmas.{restores-cut, restores-joined}
use Rattle.thin_vec.proofs.ListBlockLemmas.{RestoresInvariant, thin-filled, list_view-keeps}
use Rattle.thin_vec.proofs.BoundsLemmas.{bounds-kept}
use Rattle.thin_vec.proofs.list.ThinVec.append_from.Goals as goal

pub move_run_to-requires-clause-filled : goal.move_run_to-requires-clause-filled
move_run_to-requires-clause-filled g c = λ i low high.
    thin-filled c.other.inside.block c.other.inside.alloc i c.other.invariant
    (omega (arith, ap (λ v. length v.items) c.other.view_is))

cut : (g : _) (c : goal.After-set_len-2 g)
    → RestoresInvariant c.set_len.new.self c.other.inside.alloc
    (take c.args.start (items_in c.other.inside.block.slots)) (length c.other.inside.block.slots)
cut g c =
    restores-cut c.other.invariant c.set_len.new.self c.args.start
    (omega (arith, c.requires.in_bounds, ap (λ v. length v.items) c.other.view_is))
    (ap (λ n. n - c.args.start) c.len.ensures.value)
    (then-len c.set_len.ensures.changes c.move_run_to.ensures.changes)

joined : (g : _) (c : goal.After-set_len-2 g)
    → RestoresInvariant c.set_len-2.new.self c.self.inside.alloc
    (items_in c.self.inside.block.slots ++ drop c.args.start
    (items_in c.other.inside.block.slots)) (length c.self.inside.block.slots)
joined g c =
    restores-joined c.self.invariant c.other.invariant c.set_len-2.new.self c.args.start
    (omega (arith, c.requires.in_bounds, ap (λ v. length v.items) c.other.view_is))
    (ap (λ n. n - c.args.start) c.len.ensures.value) c.len-len.ensures.value
    (omega (
      arith,
      ap (λ v. length v.items) c.self.view_is,
      ap (λ v. length v.items) c.other.view_is,
      ap (λ v. v.capacity) c.self.view_is,
    ))
    (then-len c.set_len-2.ensures.changes c.move_run_to.ensures.other_changes)

pub invariant_of-self : goal.invariant_of-self
invariant_of-self g c = (joined g c).thin

pub invariant_of-other : goal.invariant_of-other
invariant_of-other g c = (cut g c).thin

pub returns-clause-bounds : goal.returns-clause-bounds
returns-clause-bounds g c =
    bounds-kept _ _ _ _ _ _ c.self.invariant c.self.view_is c.len-len.ensures.bounds (joined g c)

pub returns-clause-other_bounds : goal.returns-clause-other_bounds
returns-clause-other_bounds g c =
    bounds-kept _ _ _ _ _ _ c.other.invariant c.other.view_is c.len.ensures.bounds (cut g c)

pub returns-clause-changes : goal.returns-clause-changes
returns-clause-changes g c =
    list_view-keeps c.self.view_is c.set_len-2.new.self (joined g c).cap
    ((joined g c).items
    ∙ (λ i. (c.self.view_is i).items ++ drop c.args.start (c.other.view_is i).items)) (search rules)

pub returns-clause-other_changes : goal.returns-clause-other_changes
returns-clause-other_changes g c =
    list_view-keeps c.other.view_is c.set_len.new.self (cut g c).cap
    ((cut g c).items ∙ ap (λ v. take c.args.start v.items) c.other.view_is) (search rules)
