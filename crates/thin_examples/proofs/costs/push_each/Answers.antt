-- Each push keeps the invariant, whether it succeeds or fails.
use Rattle.std.proofs.Common.{ap, arith}
use Rattle.std.proofs.lemmas.Grind.{common_steps}
use Rattle.thin_vec.proofs.CallerLemmas.{grows-copied}
use Rattle.thin_examples.proofs.costs.push_each.Goals as goal

pub loop-number-preserved : goal.loop-number-preserved
loop-number-preserved g c =
    let pushed = c.in_ok-push.ensures in
    record {
      items = grind (arith, common_steps);
      copied = omega (
        arith,
        c.loop-number.invariant.copied,
        grows-copied g.met.G.Growth.law 1 1 pushed.preserved pushed.capacity pushed.cost,
      );
      cheap = λ was. pushed.preserved.cheap (c.loop-number.invariant.cheap was);
    }

pub returns-in_err-push-clause-copied : goal.returns-in_err-push-clause-copied
returns-in_err-push-clause-copied g c =
    let same = c.in_err-push.ensures.err in
    omega (
      arith,
      c.loop-number.invariant.copied,
      ap (λ v. v.cost.grown) same,
      ap (λ v. v.capacity) same,
    )

pub returns-in_err-push-clause-cheap : goal.returns-in_err-push-clause-cheap
returns-in_err-push-clause-cheap g c = λ was.
    c.in_err-push.ensures.preserved.cheap (c.loop-number.invariant.cheap was)
