-- The new lists have the items of `list` that pass the test, and the others.
use Rattle.std.proofs.Common.{rules, tests}
use Rattle.std.proofs.lemmas.Iterator.Consumers.{YieldsList-from_first}
use Rattle.thin_vec.proofs.CollectLemmas.{items_from_parts, parts_from_yields_List}
use Rattle.thin_vec.specs.VecWords.{into_iter_items}
use Rattle.thin_examples.proofs.collect.parted.Goals as goal

pub returns : goal.returns
returns g c = record {
  items = items_from_parts c.partition.result _ _
      (parts_from_yields_List _ _ _ c.partition.result c.partition.ensures.ran
      (YieldsList-from_first (λ x. x) into_iter_items c.args.list.items cc)
      (λ x r q k. search (rules, tests)));
}
