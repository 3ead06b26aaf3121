-- When the borrow ends, the list contains the items of the slice as the borrower left them.
use Rattle.std.proofs.Common.{ap, arith, length, refl, ◌≡◌, ◌∙◌}
use Rattle.thin_block.specs.Lends.{set_slots as block_with_items}
use Rattle.thin_vec.specs.Lends.{with_items}
use Rattle.thin_vec.proofs.LendsLemmas.{restores-over, view-with_items}
use Rattle.thin_vec.proofs.ListBlockLemmas.{thin-filled, thin-run}
use Rattle.thin_vec.proofs.BoundsLemmas.{bounds-of}
use Rattle.thin_vec.proofs.list.ThinVec.as_mut_slice.Goals as goal

pub slice_mut-requires-clause-filled : goal.slice_mut-requires-clause-filled
slice_mut-requires-clause-filled g c = λ i low high.
    thin-filled c.self.inside.block c.self.inside.alloc i c.self.invariant
    (omega (arith, high, c.len-len.ensures.value, c.self.invariant.packed.len))

pub invariant_of-self-lent : goal.invariant_of-self-lent
invariant_of-self-lent g c =
    λ w. (restores-over c.self.invariant (block_with_items c.self.inside.block 0 w) w
    refl).thin

lent : (g : _) (c : goal.After-self-2-1 g) → c.slice_mut.result.now ≡ c.args.self.now.items
lent g c =
    thin-run c.self.inside.block c.self.inside.alloc c.slice_mut.result.now c.len-len.result
    c.self.invariant c.len-len.ensures.value c.slice_mut.ensures.value
    ∙ ap (λ v. v.items) c.self.view_is

pub returns : goal.returns
returns g c = (
  (
    refl,
    λ w. view-with_items c.self.inside.block c.self.inside.alloc w c.self.invariant
        ∙ ap (λ v. with_items v w) c.self.view_is,
  ),
  record {
    writes_back = tt;
    value = lent g c;
    len = ap length (lent g c);
    bounds_before = bounds-of _ _ _ _ c.self.invariant c.self.view_is c.len-len.ensures.bounds;
  },
)
