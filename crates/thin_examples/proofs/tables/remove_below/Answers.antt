-- The closure returns true exactly for the counts that are at least `least`.
use Rattle.std.proofs.Common.{rules}
use Rattle.std.proofs.lemmas.Fn.{filter_same}
use Rattle.thin_examples.proofs.tables.remove_below.Goals as goal

pub returns-clause-entries : goal.returns-clause-entries
returns-clause-entries g c = filter_same _ _ _ (λ x b t k. search rules) _ _
    c.retain_row.ensures.filtered
