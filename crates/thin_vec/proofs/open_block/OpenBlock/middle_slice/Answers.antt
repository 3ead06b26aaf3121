-- The slots `middle_start..middle_end` hold the middle items, so none of these slots is empty.
use Rattle.std.proofs.Common.{ap, ◌∙◌}
use Rattle.thin_vec.specs.OpenBlock.{open_view}
use Rattle.thin_vec.proofs.OpenBlockLemmas.{middle-filled, middle-run}
use Rattle.thin_vec.proofs.open_block.OpenBlock.middle_slice.Goals as goal

pub slice-requires-clause-filled : goal.slice-requires-clause-filled
slice-requires-clause-filled g c =
    λ i low high. middle-filled c.self.inside (open_view c.self.inside)
    c.self.invariant i low high

pub returns : goal.returns
returns g c =
    record {
      value = middle-run c.self.inside c.slice.result.now c.slice.ensures.value
          ∙ ap (λ v. v.middle) c.self.view_is;
    }
