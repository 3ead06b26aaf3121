-- If there is a middle item, then `seek` tests it.
use Rattle.std.proofs.Common.{◌∙◌, arith, refl, sym}
use Rattle.std.proofs.lemmas.List.{append-nil}
use Rattle.std.specs.Prelude.{◌==◌}
use Rattle.thin_vec.proofs.RetainLemmas.{moving-zero}
use Rattle.thin_vec.proofs.open_block.RetainMiddleLemmas.{sought}
use Rattle.thin_vec.proofs.open_block.TestLemmas.{none-at, stays-start, stays-stops}
use Rattle.thin_vec.proofs.open_block.OpenBlock.seek_removed.Goals as goal

pub returns-then-middle_len-eq0-clause-tested : goal.returns-then-middle_len-eq0-clause-tested
returns-then-middle_len-eq0-clause-tested g c =
    let R = g.J.Test.tests in
    let s = c.args.test.now in
    let v = c.args.self.now in
    sought R v 0
    (stays-stops R (stays-start R s v.middle)
    (none-at R s v.middle (sym c.middle_len.ensures.value ∙ c.if-middle_len-eq0.true)))
    refl (omega arith) refl
    (λ i. record v {
      front = sym (append-nil v.front) i;
      cost = sym (moving-zero (v.gap_before == 0) v.cost) i;
    })
