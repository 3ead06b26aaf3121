-- The list in the struct keeps the percentages above 0. They are at most 100, as before.
use Rattle.std.proofs.Common.{◌≤◌, nat_lt, rules}
use Rattle.std.proofs.lemmas.List.Elements.{All-filter}
use Rattle.thin_vec.proofs.RetainLemmas.{retained_filter}
use Rattle.thin_examples.proofs.structs.Percents.remove_zeros.Goals as goal

pub returns : goal.returns
returns c = record {
  items = rw (← c.self.view_is)
      (retained_filter _ (nat_lt 0) (λ x b t k. search rules) c.retain.ensures.retained);
}

pub invariant_of-self : goal.invariant_of-self
invariant_of-self c = rw ((returns c).items, ← c.self.view_is)
    (All-filter (nat_lt 0) (λ percent. percent ≤ 100) _ c.self.invariant)
