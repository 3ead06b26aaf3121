-- The closure calls the method `look` of the judge, which so determines the kept items.
use Rattle.std.proofs.Common.{rules}
use Rattle.thin_vec.proofs.RetainLemmas.{retained_mut}
use Rattle.thin_runner.proofs.CallbackLemmas.{looked, retained-by}
use Rattle.thin_runner.proofs.context.Context.retain.Goals as goal

pub returns : goal.returns
returns g c =
    let e = c.retain.ensures in
    let look = g.J.Judge.model.look in
    record {
      allowed = (
        tt,
        retained-by _ (λ f. f.0) _
            (λ f x b f' y called. looked look f.0 f'.0 x y b (search rules) called.1)
            (retained_mut _ e.retained) e.capacity e.preserved.alloc,
      );
    }
