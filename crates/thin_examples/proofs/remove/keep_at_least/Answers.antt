-- The closure counts, so each call may change its state `s`. `s.0` is the first variable that it
-- uses, `limit`, which no call changes.
use Rattle.std.proofs.Common.{◌≡◌, refl, rules}
use Rattle.thin_vec.proofs.RetainLemmas.{retained_filter_keeping}
use Rattle.thin_examples.proofs.remove.keep_at_least.Goals as goal

pub returns : goal.returns
returns g c = record {
  items = retained_filter_keeping _ (λ s. s.0.now ≡ c.args.limit) _
      (λ s x b t i k. (search rules, search rules)) refl c.retain.ensures.retained;
}
