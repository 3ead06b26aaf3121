-- The slots `start..end`, which `as_slice` lends, hold the items not yielded yet.
use Rattle.std.proofs.Common.{ap, ◌∙◌}
use Rattle.thin_vec.proofs.convert.IntoIterLemmas.{walked-filled, walked-run}
use Rattle.thin_vec.proofs.convert.into_iter.IntoIter.as_slice.Goals as goal

pub slice-requires-clause-filled : goal.slice-requires-clause-filled
slice-requires-clause-filled g c = λ i low high. walked-filled c.self.inside.block
    c.self.inside.alloc c.self.inside.start c.self.inside.end i c.self.invariant low high

pub returns : goal.returns
returns g c =
    record {
      value = walked-run c.self.inside.block c.self.inside.alloc c.self.inside.start
          c.self.inside.end c.slice.result.now c.self.invariant c.slice.ensures.value
          ∙ ap (λ v. v.items) c.self.view_is;
    }
