-- When the borrow of the slots `start..end` ends, the block is still the block of an iterator.
use Rattle.std.proofs.Common.{ap, refl, ◌∙◌}
use Rattle.thin_block.specs.Lends.{set_slots as block_with_items}
use Rattle.thin_vec.specs.Lends.{with_items}
use Rattle.thin_vec.proofs.convert.IntoIterLemmas.{restores-written, view-written, walked-filled, walked-run}
use Rattle.thin_vec.proofs.convert.into_iter.IntoIter.as_mut_slice.Goals as goal

pub slice_mut-requires-clause-filled : goal.slice_mut-requires-clause-filled
slice_mut-requires-clause-filled g c = λ i low high. walked-filled c.self.inside.block
    c.self.inside.alloc c.self.inside.start c.self.inside.end i c.self.invariant low high

pub invariant_of-self-lent : goal.invariant_of-self-lent
invariant_of-self-lent g c = λ w.
    (restores-written c.self.inside.block
    (block_with_items c.self.inside.block c.self.inside.start w)
    c.self.inside.alloc c.self.inside.start c.self.inside.end w
    c.self.invariant refl).walked

pub returns : goal.returns
returns g c = (
  (
    refl,
    λ w. view-written c.self.inside.block c.self.inside.alloc c.self.inside.start
        c.self.inside.end w c.self.invariant ∙ ap (λ v. with_items v w) c.self.view_is,
  ),
  record {
    writes_back = tt;
    value = walked-run c.self.inside.block c.self.inside.alloc c.self.inside.start c.self.inside.end
        c.slice_mut.result.now c.self.invariant c.slice_mut.ensures.value
        ∙ ap (λ v. v.items) c.self.view_is;
  },
)
