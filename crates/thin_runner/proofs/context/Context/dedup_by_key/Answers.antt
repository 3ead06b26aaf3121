-- The closure calls the method `key` of the judge, which so determines the kept items.
use Rattle.std.proofs.Common.{rules}
use Rattle.thin_runner.proofs.CallbackLemmas.{deduped-by-keys}
use Rattle.thin_runner.proofs.context.Context.dedup_by_key.Goals as goal

pub returns : goal.returns
returns g c =
    let e = c.dedup_by_key.ensures in
    record {
      allowed = (
        tt,
        deduped-by-keys _ (λ f. f.0) g.J.Judge.model.key
            (λ f x k f' x' called. search rules) e.deduped e.capacity e.preserved.alloc,
      );
    }
