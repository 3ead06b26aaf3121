-- The new lists have the fields of the pairs in `pairs`.
use Rattle.std.proofs.lemmas.Iterator.Consumers.{YieldsList-from_first}
use Rattle.thin_vec.proofs.CollectLemmas.{items_from_unzip}
use Rattle.thin_vec.specs.VecWords.{into_iter_items}
use Rattle.thin_examples.proofs.collect.unzipped.Goals as goal

pub returns : goal.returns
returns g c = record {
  items = items_from_unzip _ _ c.unzip.result c.unzip.ensures.ran
      (YieldsList-from_first (λ x. x) into_iter_items _ cc);
}
