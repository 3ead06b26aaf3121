-- When the borrow ends, the item at `index` is the value that was written through the reference.
use Rattle.std.proofs.Common.{◌<◌, ap, arith, length, refl, sym, ◌∙◌}
use Rattle.std.specs.List.{slice_get}
use Rattle.std.proofs.lemmas.Option.{get_or_from_slice_get}
use Rattle.thin_block.specs.Lends.{set_slot as block_with_item}
use Rattle.thin_block.specs.Slots.{items_in}
use Rattle.thin_vec.specs.Lends.{with_item}
use Rattle.thin_vec.proofs.LendsLemmas.{restores-set, view-with_item}
use Rattle.thin_vec.proofs.ListBlockLemmas.{thin-filled, thin-get}
use Rattle.thin_vec.proofs.list.index.ThinVecIndexMutUsize.index_mut.Goals as goal

pub slot_mut-requires : goal.slot_mut-requires
slot_mut-requires g c =
    let within : c.args.index < length (items_in c.self.inside.block.slots) =
    omega (arith, c.requires, ap (λ v. length v.items) c.self.view_is) in
    record {
      filled = thin-filled c.self.inside.block c.self.inside.alloc c.args.index
          c.self.invariant within;
    }

pub invariant_of-self-lent : goal.invariant_of-self-lent
invariant_of-self-lent g c = λ w.
    let within : c.args.index < length (items_in c.self.inside.block.slots) =
    omega (arith, c.requires, ap (λ v. length v.items) c.self.view_is) in
    (restores-set c.self.invariant
    (block_with_item c.self.inside.block c.args.index w) c.args.index w
    within refl).thin

pub returns : goal.returns
returns g c =
    let within : c.args.index < length (items_in c.self.inside.block.slots) =
    omega (arith, c.requires, ap (λ v. length v.items) c.self.view_is) in
    let item = sym (ap (λ v. slice_get v.items c.args.index) c.self.view_is)
    ∙ thin-get c.self.inside.block c.self.inside.alloc c.args.index c.slot_mut.result.now
    c.self.invariant within c.slot_mut.ensures.value in (
      (
        refl,
        λ w. view-with_item c.self.inside.block c.self.inside.alloc c.args.index w
            c.self.invariant within ∙ ap (λ v. with_item v c.args.index w) c.self.view_is,
      ),
      record {
        writes_back = tt;
        value = sym (get_or_from_slice_get c.args.self.now.items c.args.index c.slot_mut.result.now
            c.slot_mut.result.now item);
        found = item;
        bounds_before = rw c.self.view_is at c.len-len.ensures.bounds;
      },
    )
