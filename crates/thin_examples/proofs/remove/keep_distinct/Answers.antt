-- `keep_distinct` calls `dedup` on a sorted list, so the items that `dedup` keeps are strictly
-- increasing.
use Rattle.std.proofs.Common.{subst, sym}
use Rattle.std.specs.List.Sorted.{IsStrictlyIncreasing}
use Rattle.std.proofs.lemmas.Map.Keys.{IsStrictlyIncreasing-dedup}
use Rattle.thin_examples.proofs.remove.keep_distinct.Goals as goal

pub returns-clause-distinct : goal.returns-clause-distinct
returns-clause-distinct g c = subst IsStrictlyIncreasing (sym c.dedup.ensures.items)
    (IsStrictlyIncreasing-dedup c.args.list.now.items c.requires.sorted)
