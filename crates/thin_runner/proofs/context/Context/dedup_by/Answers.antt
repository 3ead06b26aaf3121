-- The closure calls the method `same` of the judge, which so determines the kept items.
use Rattle.std.proofs.Common.{rules}
use Rattle.thin_runner.proofs.CallbackLemmas.{deduped-by}
use Rattle.thin_runner.proofs.context.Context.dedup_by.Goals as goal

pub returns : goal.returns
returns g c =
    let e = c.dedup_by.ensures in
    record {
      allowed = (
        tt,
        deduped-by _ (λ f. f.0) g.J.Judge.model.same
            (λ f x k b f' x' k' called. search rules) e.deduped e.capacity e.preserved.alloc,
      );
    }
