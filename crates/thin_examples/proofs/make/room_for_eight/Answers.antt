-- `room_for_eight` cannot fail with `CapacityOverflow`, because the allocation for eight numbers
-- does not exceed the maximum size of an allocation.
use Rattle.std.proofs.Common.{arith}
use Rattle.thin_vec.proofs.CallerLemmas.{few_items}
use Rattle.thin_examples.proofs.make.room_for_eight.Goals as goal

pub returns-clause-cause : goal.returns-clause-cause
returns-clause-cause g c =
    few_items _ 8 _ (omega arith) (omega arith) c.with_capacity.ensures.overflow
