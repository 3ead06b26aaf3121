-- When the borrow ends, the list contains the items of the slice as the borrower left them.
use Rattle.std.proofs.Common.{◌≤◌, ap, arith, length, refl, ◌∙◌}
use Rattle.std.specs.Prelude.{slice_range}
use Rattle.thin_block.specs.Lends.{set_slots as block_with_items}
use Rattle.thin_block.specs.Slots.{items_in}
use Rattle.thin_vec.specs.Lends.{with_items_from}
use Rattle.thin_vec.proofs.LendsLemmas.{restores-from, thin-range, view-with_items_from}
use Rattle.thin_vec.proofs.ListBlockLemmas.{thin-filled, thin-room}
use Rattle.thin_vec.proofs.list.ClonesLemmas.{length-range}
use Rattle.thin_vec.proofs.list.ThinVec.slice_mut.Goals as goal

pub slice_mut-requires-clause-in_bounds : goal.slice_mut-requires-clause-in_bounds
slice_mut-requires-clause-in_bounds g c =
    omega (
      arith,
      c.requires.in_bounds,
      ap (λ v. length v.items) c.self.view_is,
      thin-room c.self.inside.block c.self.inside.alloc c.self.invariant,
    )

pub slice_mut-requires-clause-filled : goal.slice_mut-requires-clause-filled
slice_mut-requires-clause-filled g c = λ i low high.
    thin-filled c.self.inside.block c.self.inside.alloc i c.self.invariant
    (omega (arith, high, c.requires.in_bounds, ap (λ v. length v.items) c.self.view_is))

pub invariant_of-self-lent : goal.invariant_of-self-lent
invariant_of-self-lent g c = λ w.
    let within : c.args.start ≤ length (items_in c.self.inside.block.slots) =
    omega (
      arith,
      c.requires.start_le_end,
      c.requires.in_bounds,
      ap (λ v. length v.items) c.self.view_is,
    ) in
    (restores-from c.self.invariant (block_with_items c.self.inside.block c.args.start w)
    c.args.start w within refl).thin

pub returns : goal.returns
returns g c =
    let long = ap (λ v. length v.items) c.self.view_is in
    let before : c.args.start ≤ length (items_in c.self.inside.block.slots) =
    omega (arith, c.requires.start_le_end, c.requires.in_bounds, long) in
    let within : c.args.end ≤ length (items_in c.self.inside.block.slots) =
    omega (arith, c.requires.in_bounds, long) in
    let lent = thin-range c.self.inside.block c.self.inside.alloc c.slice_mut.result.now
    c.args.start c.args.end c.self.invariant c.requires.start_le_end within
    c.slice_mut.ensures.value
    ∙ ap (λ v. slice_range v.items c.args.start c.args.end) c.self.view_is in (
      (
        refl,
        λ w. view-with_items_from c.self.inside.block c.self.inside.alloc c.args.start w
            c.self.invariant before
            ∙ ap (λ v. with_items_from v c.args.start w) c.self.view_is,
      ),
      record {
        writes_back = tt;
        value = lent;
        len = ap length lent
            ∙ length-range c.args.self.now.items c.args.start c.args.end c.requires.in_bounds;
        bounds_before = rw c.self.view_is at c.len-len.ensures.bounds;
      },
    )
