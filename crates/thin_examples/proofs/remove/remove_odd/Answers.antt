-- The closure returns true exactly for the even numbers.
use Rattle.std.proofs.Common.{rules}
use Rattle.thin_vec.proofs.RetainLemmas.{retained_filter}
use Rattle.thin_examples.proofs.remove.remove_odd.Goals as goal

pub returns-clause-items : goal.returns-clause-items
returns-clause-items g c = retained_filter _ _
    (λ x b t k. search rules) c.retain.ensures.retained
