-- `put_repeated` writes clones of `value` into the slots directly after the last item.
use Rattle.std.proofs.Common.{◌≡◌, ◌++◌, ap, arith, length, ◌∙◌, refl, rules}
use Rattle.std.proofs.lemmas.List.{length-replicate}
use Rattle.thin_block.proofs.BlockLemmas.{slots-are, then-len}
use Rattle.thin_block.specs.Slots.{items_in}
use Rattle.thin_vec.proofs.list.ClonesLemmas.{all-repeated, length-copies}
use Rattle.thin_vec.proofs.list.AppendSplitLemmas.{restores-more}
use Rattle.thin_vec.proofs.ListBlockLemmas.{RestoresInvariant, list_view-keeps}
use Rattle.thin_vec.proofs.BoundsLemmas.{bounds-kept}
use Rattle.thin_vec.proofs.list.ThinVec.push_repeated_reserved.Goals as goal

many : (g : _) (c : goal.After-set_len g) → length c.put_repeated-placed.ensures.slots.copies
    ≡ c.put_repeated-placed.result
many g c =
    let put = c.put_repeated-placed.ensures in
    length-copies put.slots
    (omega (arith, put.in_bounds, length-replicate c.args.count c.args.value.now))

facts : (g : _) (c : goal.After-set_len g)
    → RestoresInvariant c.set_len.new.self c.self.inside.alloc
    (items_in c.self.inside.block.slots ++ c.put_repeated-placed.ensures.slots.copies)
    (length c.self.inside.block.slots)
facts g c =
    let put = c.put_repeated-placed.ensures in
    let len = c.len-len in
    restores-more c.self.invariant c.set_len.new.self put.slots.copies len.result len.ensures.value
    (omega (
      arith,
      many g c,
      ap (λ v. length v.items) c.self.view_is,
      ap (λ v. v.capacity) c.self.view_is,
    ))
    (omega (arith, many g c))
    (then-len c.set_len.ensures.changes
    (slots-are put.changes put.slots.slots))

pub invariant_of-self : goal.invariant_of-self
invariant_of-self g c = (facts g c).thin

pub returns-clause-items : goal.returns-clause-items
returns-clause-items g c =
    let lays = c.put_repeated-placed.ensures.slots in
    record {
      copies = lays.copies;
      cloned = all-repeated g.T.Clone.is_clone c.args.value.now c.put_repeated-placed.result
          c.args.count lays.copies lays.cloned;
      count = many g c;
      items = (facts g c).items ∙ ap (λ v. v.items ++ lays.copies) c.self.view_is;
    }

pub returns-clause-bounds : goal.returns-clause-bounds
returns-clause-bounds g c =
    bounds-kept _ _ _ _ _ _ c.self.invariant c.self.view_is c.len-len.ensures.bounds (facts g c)

pub returns-clause-changes : goal.returns-clause-changes
returns-clause-changes g c =
    list_view-keeps c.self.view_is c.set_len.new.self (facts g c).cap refl (search rules)
