-- The first `len` slots, which `as_slice` returns, hold exactly the items of the list.
use Rattle.std.proofs.Common.{ap, arith, length, ◌∙◌}
use Rattle.thin_vec.proofs.ListBlockLemmas.{thin-filled, thin-run}
use Rattle.thin_vec.proofs.BoundsLemmas.{bounds-of}
use Rattle.thin_vec.proofs.list.ThinVec.as_slice.Goals as goal

pub slice-requires-clause-filled : goal.slice-requires-clause-filled
slice-requires-clause-filled g c = λ i low high.
    thin-filled c.self.inside.block c.self.inside.alloc i c.self.invariant
    (omega (arith, high, c.len.ensures.value, c.self.invariant.packed.len))

pub returns : goal.returns
returns g c =
    let value = thin-run c.self.inside.block c.self.inside.alloc c.slice.result.now c.len.result
    c.self.invariant c.len.ensures.value c.slice.ensures.value
    ∙ ap (λ v. v.items) c.self.view_is in
    record {
      value = value;
      len = ap length value;
      bounds = bounds-of _ _ _ _ c.self.invariant c.self.view_is c.len.ensures.bounds;
    }
