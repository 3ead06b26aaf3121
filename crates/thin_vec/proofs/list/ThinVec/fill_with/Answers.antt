-- The list contains the items of the filled slice.
use Rattle.std.proofs.Common.{◌∙◌}
use Rattle.thin_vec.proofs.LendsLemmas.{all-replaced}
use Rattle.thin_vec.proofs.list.ThinVec.fill_with.Goals as goal

pub returns-clause-ran : goal.returns-clause-ran
returns-clause-ran g c =
    let same = c.fill_with.ensures.len ∙ c.as_mut_slice.ensures.len in
    rw (all-replaced c.args.self.now c.fill_with.new.self same) c.fill_with.ensures.ran
