-- The list has what the closure returned for the words, each of which is then a numeral.
use Rattle.std.proofs.Common.{rules}
use Rattle.std.proofs.lemmas.Iterator.{YieldsList-from_slice}
use Rattle.thin_vec.proofs.CollectLemmas.{zip_from_try_collect}
use Rattle.thin_examples.proofs.collect.parsed.Goals as goal

pub returns : goal.returns
returns g c = record {
  items = zip_from_try_collect _ _ _ c.try_collect.result c.try_collect.ensures.ran
      (YieldsList-from_slice c.args.words.now cc) c.map.ensures.closure
      (λ word number q k. search rules);
}
