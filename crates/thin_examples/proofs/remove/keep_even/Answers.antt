-- The closure that `keep_even` passes to `retain` returns true exactly for the even numbers. So the
-- list keeps exactly the even numbers.
use Rattle.std.proofs.Common.{rules}
use Rattle.thin_vec.proofs.RetainLemmas.{retained_filter}
use Rattle.thin_examples.proofs.remove.keep_even.Goals as goal

pub returns-clause-items : goal.returns-clause-items
returns-clause-items g c = retained_filter _ _
    (λ x b t k. search rules) c.retain.ensures.retained
