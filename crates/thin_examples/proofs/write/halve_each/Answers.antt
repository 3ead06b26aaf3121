-- Each iteration halves the number at the index. The loop ends when the index is the length.
use Rattle.std.proofs.Common.{◌/◌, rules}
use Rattle.std.proofs.lemmas.List.{drop_all, take_all}
use Rattle.std.proofs.lemmas.List.Edits.{map_over_more}
use Rattle.thin_vec.proofs.CallerLemmas.{refill_all}
use Rattle.thin_examples.proofs.write.halve_each.Goals as goal

pub loop-number-preserved : goal.loop-number-preserved
loop-number-preserved g c = search (rules, map_over_more (λ number. number / 2))

pub returns-clause-items : goal.returns-clause-items
returns-clause-items g c = search (rules, take_all, drop_all, refill_all)
