-- The search does not find the item type for the lemma `few_more`.
use Rattle.std.proofs.Common.{arith}
use Rattle.std.specs.Borrow.{u64}
use Rattle.thin_vec.proofs.CallerLemmas.{few_more}
use Rattle.thin_examples.proofs.add.reserve_eight.Goals as goal

pub returns-clause-cause : goal.returns-clause-cause
returns-clause-cause g c =
    few_more u64 8 c.args.list.now _ (omega arith) (omega arith) c.reserve.ensures.overflow
