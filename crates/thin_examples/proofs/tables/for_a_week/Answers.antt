-- `for_a_week` cannot fail with `CapacityOverflow`, because the allocation for seven rows does not
-- exceed the maximum size of an allocation.
use Rattle.std.proofs.Common.{arith}
use Rattle.thin_vec.proofs.CallerLemmas.{few_items}
use Rattle.thin_examples.proofs.tables.for_a_week.Goals as goal

pub returns-clause-cause : goal.returns-clause-cause
returns-clause-cause c =
    few_items _ 7 _ (omega arith) (omega arith) c.with_rows.ensures.overflow
