-- Each iteration halves the number at the index. The loop ends when the index is the length.
use Rattle.std.proofs.Common.{◌/◌, length-set, rules, ◌∙◌}
use Rattle.std.proofs.lemmas.List.{drop_all, take_all}
use Rattle.std.proofs.lemmas.List.Edits.{map_over_more}
use Rattle.thin_examples.proofs.write.halve_by_index.Goals as goal

pub loop-i-preserved : goal.loop-i-preserved
loop-i-preserved g c = record {
  items = search (rules, map_over_more (λ number. number / 2));
  len = length-set _ _ _ ∙ c.loop-i.invariant.len;
  capacity = search rules;
}

pub returns-clause-items : goal.returns-clause-items
returns-clause-items g c = search (rules, take_all, drop_all)
