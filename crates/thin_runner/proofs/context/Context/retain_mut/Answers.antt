-- The closure calls the method `keep` of the judge, which so determines the kept items.
use Rattle.std.proofs.Common.{rules}
use Rattle.thin_runner.proofs.CallbackLemmas.{retained-by}
use Rattle.thin_runner.proofs.context.Context.retain_mut.Goals as goal

pub returns : goal.returns
returns g c =
    let e = c.retain_mut.ensures in
    record {
      allowed = (
        tt,
        retained-by _ (λ f. f.0) _ (λ f x b f' y called. search rules)
            e.retained e.capacity e.preserved.alloc,
      );
    }
